-- First lines, written one behind the other.
--
--   noted-none, noted_more, noted-all, noted-stops     the steps of a loop that writes them
--   Running, running_none, running_more, running-stops, running-all     those of one degree
--   run-left, left-ran               the squares of their degrees, taken from the order at once
--   not_noted                        nothing is written
use Rattle.std.specs.Prelude.{Some, None}
use mathlib.Core.Path.{◌≡◌, refl, sym, ◌∙◌, ap, subst}
use mathlib.Core.Logic.{by_cases}
use mathlib.Core.List.{List}
use Prim.Native.Nat.{ℕ, ◌+◌, ◌*◌, ◌-◌, ◌/◌, ◌≤◌, ◌<◌}
use native.Mathlib.Nat.{mul-le-mul_right, mul-pos, div-lt_iff_lt-mul}
use native.Mathlib.Numerals.{add-one}
use native.Mathlib.Omega.{arith}
use native.Mathlib.Decide.{ℕ_discrete, dec_lt}
use lib.ListN.{length, get_or, set, length-set}
use lib.Seq.{get_or-set_same, get_or-set_other}
use Rattle.definitions.specs.Lists.{sum}
use Rattle.definitions.specs.Monomial.{rep_of}
use Rattle.definitions.specs.Table.{DEG, word_at, line_count, first_line, level_at}
use Rattle.numbers.proofs.Sums.{sum_below, sum-const, sum-split}
use Rattle.level.specs.declared.Listed.{Listed}
use Rattle.level.specs.Stored.{listed_in}
use Rattle.seek.specs.declared.Scope.{Scope}
use Rattle.seek.specs.Seek.{Found}
use Rattle.seek.proofs.Seek.{found-there, found-next}
use Rattle.check_blocks.specs.Squares.{square_of, squares_in}
use Rattle.check_blocks.proofs.Squares.{Left}
use Rattle.check_level.specs.declared.RunEnd.{RunEnd}
use Rattle.check_level.specs.Lines.{Noted, RunAsked, Ran, FirstLines}

module _ {s : Scope} {T : List ℕ} {i at : ℕ} {F₀ : List ℕ} where
  pub noted-none : Noted s T i at F₀ F₀ 0
  noted-none = record { size = refl; kept = λ q l. refl; line = λ r l. absurd (omega arith) }

  pub not_noted : {o : ℕ} → FirstLines s T i o at F₀ F₀ None
  not_noted = record { size = refl; kept = λ q l. refl; some = tt }

  module _ {F₁ : List ℕ} {k : ℕ} (N : Noted s T i at F₀ F₁ k) where
    pub noted_more : (x : ℕ) → at + k < length F₁ → x ≡ first_line s.gens T i k → Noted s T i at F₀ (set F₁ (at + k) x) (k + 1)
    noted_more x l e = record {
      size = length-set F₁ (at + k) x ∙ N.size;
      kept = λ q h. get_or-set_other F₁ (at + k) q x 0 (λ z. omega (arith, z)) ∙ N.kept q h;
      line = λ r h. go r h (ℕ_discrete r k);
    }
      where
        go : (r : ℕ) → r < k + 1 → Dec (r ≡ k) → get_or (set F₁ (at + k) x) (at + r) 0 ≡ first_line s.gens T i r
        go r h (yes z) =
            ap (λ r. get_or (set F₁ (at + k) x) (at + r) 0) z ∙ get_or-set_same F₁ (at + k) x 0 l ∙ e ∙ ap (first_line s.gens T i) (sym z)
        go r h (no z) = get_or-set_other F₁ (at + k) (at + r) x 0 (λ q. omega (arith, z, q)) ∙ N.line r (omega arith)

    pub noted-all : {many : ℕ} → many ≡ length (level_at s.gens T i) → at + many ≤ length F₀ → many ≤ k → {o : ℕ} → squares_in s.gens T i ≡ o
        → FirstLines s T i o at F₀ F₁ (Some many)
    noted-all e room l q = record {
      size = N.size;
      kept = N.kept;
      some = (record { counts = e; room = omega (arith, N.size); line = λ r h. N.line r (omega arith) }, q);
    }

    -- the squares do not add up
    pub noted-stops : {o : ℕ} → FirstLines s T i o at F₀ F₁ None
    noted-stops = record { size = N.size; kept = N.kept; some = tt }

-- ---- Representations of one degree

module _ {s : Scope} {T : List ℕ} {i : ℕ} {D : Listed} {size at r reps : ℕ} (A : RunAsked s T i D size at r reps) (F : List ℕ) where
  -- representations from r on are written up to q, which stands at a line
  pub record Running (G : List ℕ) (line q : ℕ) : Type 0 where
    pub from : r ≤ q
    pub within : q ≤ reps
    pub same : length G ≡ length F
    pub noted : {F₀ : List ℕ} → Noted s T i at F₀ F r → Noted s T i at F₀ G q
    pub degrees : (k : ℕ) → r ≤ k → k < q → (rep_of (level_at s.gens T i) k).deg ≡ D.deg
    pub behind : q < reps → Found s.gens T i q (listed_in T line)
    pub first : q ≡ r → line ≡ D.line

  pub running_none : Running F D.line r
  running_none = record {
    from = omega arith;
    within = omega (arith, A.found.listed, A.counts);
    same = refl;
    noted = λ N. N;
    degrees = λ k a b. absurd (omega (arith, a, b));
    behind = λ l. subst (Found s.gens T i r) here A.found;
    first = λ e. refl;
  }
    where
      here : D ≡ listed_in T D.line
      here = λ o. record { line = D.line; deg = sym A.found.said o }

  module _ {G : List ℕ} {line q : ℕ} (R : Running G line q) where
    pub running-there : q < reps → 8 * line + 8 ≤ length T
    running-there l = found-there s T A.whole (R.behind l)

    -- a line is a number of 32 bits
    pub running-small : q < reps → line < 4294967296
    running-small l = let F = R.behind l in omega (arith, F.inside, F.positive, A.whole.lines_are, A.short, found_below l)
      where
        found_below : q < reps → line < line_count T
        found_below l =
            let F = R.behind l in
            let m : 1 * word_at T line DEG ≤ s.gens * word_at T line DEG = mul-le-mul_right (word_at T line DEG) A.whole.some in
            omega (arith, F.inside, F.positive, m)

    pub running_more : q < reps → word_at T line DEG ≡ D.deg → {step : ℕ} → step ≡ s.gens * D.deg → at + q < length G → {x : ℕ} → x ≡ line
        → Running (set G (at + q) x) (line + step) (q + 1)
    running_more l e {step} st h {x} is = record {
      from = omega (arith, R.from);
      within = omega arith;
      same = length-set G (at + q) x ∙ R.same;
      noted = λ N. noted_more (R.noted N) x h (is ∙ (R.behind l).line);
      degrees = below-from;
      behind = λ m. subst (λ k. Found s.gens T i k (listed_in T (line + step))) (sym (add-one q))
          (found-next s T A.whole i q (line + step) (listed_in T line) (R.behind l) (omega (arith, m, A.counts))
          (ap (λ z. line + z) (st ∙ ap (λ d. s.gens * d) (sym e))));
      first = λ z. absurd (omega (arith, z, R.from));
    }
      where
        here : (rep_of (level_at s.gens T i) q).deg ≡ D.deg
        here = sym (R.behind l).deg ∙ e

        below-from : (k : ℕ) → r ≤ k → k < q + 1 → (rep_of (level_at s.gens T i) k).deg ≡ D.deg
        below-from k a b = by_cases (dec_lt k q)
            (λ c. R.degrees k a c)
            (λ c. let z : q ≡ k = omega arith in subst (λ k. (rep_of (level_at s.gens T i) k).deg ≡ D.deg) z here)

    ran : r < q → Ran s T i D at r F G (record { next = q; line = line })
    ran l = record {
      forth = l;
      within = omega (arith, R.within, A.counts);
      size = R.same;
      noted = R.noted;
      degrees = R.degrees;
      behind = λ m. R.behind (omega (arith, m, A.counts));
    }

    -- another degree comes; or no representation does
    pub running-stops : ¬ (word_at T line DEG ≡ D.deg) → Ran s T i D at r F G (record { next = q; line = line })
    running-stops n = ran (go (dec_lt r q))
      where
        go : Dec (r < q) → r < q
        go (yes l) = l
        go (no l) = absurd (n (ap (λ x. word_at T x DEG) (R.first (omega (arith, l, R.from))) ∙ A.found.said))

    pub running-all : ¬ (q < reps) → Ran s T i D at r F G (record { next = reps; line = line })
    running-all n =
        let e : q ≡ reps = omega (arith, n, R.within) in
        subst (λ q. Ran s T i D at r F G (record { next = q; line = line })) e (ran (omega (arith, n, A.found.listed, A.counts)))

-- the squares of the degrees of a run
left-run : (n : ℕ) (T : List ℕ) (i o k d : ℕ) {left r : ℕ} → Left n T i o left r → ((j : ℕ) → r ≤ j → j < r + k → (rep_of (level_at n T i) j).deg ≡ d)
    → k * (d * d) ≤ left → Left n T i o (left - k * (d * d)) (r + k)
left-run n T i o k d {left} {r} L same l = record { is = omega (arith, L.is, l, sum-split r k (square_of n T i), squares) }
  where
    squares : sum k (λ j. square_of n T i (r + j)) ≡ k * (d * d)
    squares = sum_below k _ (λ j. d * d) (λ j h. ap (λ d. d * d) (same (r + j) (omega arith) (omega arith))) ∙ sum-const k (d * d)

-- what is taken is there
pub run-left : {d q k left : ℕ} → 0 < d → q ≡ d * d → k ≤ left / q → k * q ≤ left
run-left {d} {q} {k} {left} p is n = by_cases (dec_lt left (k * q))
    (λ l. let m : left / q < k = (div-lt_iff_lt-mul positive).1 l in absurd (omega (arith, m, n)))
    (λ l. omega arith)
  where
    positive : 0 < q
    positive = subst (λ q. 0 < q) (sym is) (mul-pos p p)

pub left-ran : {s : Scope} {T : List ℕ} {i o at left r q : ℕ} {D : Listed} {F G : List ℕ} {e : RunEnd} → Left s.gens T i o left r → 0 < D.deg
    → Ran s T i D at r F G e → q ≡ D.deg * D.deg → e.next - r ≤ left / q → Left s.gens T i o (left - (e.next - r) * q) e.next
left-ran {s} {T} {i} {o} {at} {left} {r} {q} {D} {F} {G} {e} L p R is n =
    let k : ℕ = e.next - r in
    let there : r + k ≡ e.next = omega (arith, R.forth) in
    let room : k * q ≤ left = run-left p is n in
    let taken : left - k * (D.deg * D.deg) ≡ left - k * q = ap (λ q. left - k * q) (sym is) in
    subst (λ x. Left s.gens T i o x e.next) taken (subst (λ x. Left s.gens T i o (left - k * (D.deg * D.deg)) x) there
    (left-run s.gens T i o k D.deg L (λ j a b. R.degrees j a (omega (arith, b, there))) (subst (λ q. k * q ≤ left) is room)))
