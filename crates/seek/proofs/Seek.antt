-- Representations of a whole table.
--
--   splits            a listed representation is found by the order of the lines
--   found_first       it begins at its first line
--   found_at          where the search ends, it begins
--   found-next        the one behind it
--   found-fits        one that is found stands in the words
--   found-above       the level above level i, by either name
--   zero-degree, zero-count       level 0
--   whole-some, last-before, next-splits, next-before     how many representations a level has
use mathlib.Core.Path.{◌≡◌, refl, sym, ◌∙◌, ap, ap₂, subst}
use mathlib.Core.List.{List}
use Prim.Native.Nat.{ℕ, zero, suc, ◌+◌, ◌*◌, ◌≤◌, ◌<◌}
use native.Mathlib.Nat.{mul-le-mul_right}
use native.Mathlib.Numerals.{add-one}
use native.Mathlib.Omega.{arith}
use lib.ListN.{length}
use Rattle.definitions.specs.Monomial.{rep_of}
use Rattle.definitions.specs.Table.{line_count, rep_at, level_zero, level_at, first_line}
use Rattle.heads.specs.Order.{Split, Splits}
use Rattle.heads.proofs.Complete.{complete-rep, complete-degree}
use Rattle.heads.proofs.Order.{split_one, complete-split, complete-room, complete-word, complete-next, complete-some, Last, complete-last, complete-end}
use Rattle.level.specs.declared.Listed.{Listed}
use Rattle.level.specs.Stored.{listed_in}
use Rattle.seek.specs.declared.Scope.{Scope}
use Rattle.seek.specs.Seek.{Whole, Found, HasLines}
use Rattle.seek.proofs.Halves.{line-there, lines-there}

module _ (s : Scope) (T : List ℕ) (W : Whole s T) where
  abbrev n : ℕ
  n = s.gens

  pub found_first : (i r : ℕ) → 0 < i → i ≤ s.gens → r < length (level_at s.gens T i)
      → Found s.gens T i r (listed_in T (first_line s.gens T i r))
  found_first zero r p l h = absurd (omega arith)
  found_first (suc k) r p l h =
      let d = complete-word n W.some T W.all k r l h in
      let rep = complete-rep n W.some T W.all k r h in
      record {
        level = (p, l);
        listed = h;
        line = refl;
        said = refl;
        deg = d;
        rep = rep ∙ ap (rep_at T (first_line n T (suc k) r)) (sym d);
        positive = subst (λ z. 0 < z) (sym d) (complete-degree n W.some T W.all k r l h);
        inside = subst (λ z. first_line n T (suc k) r + n * z ≤ line_count T) (sym d) (complete-room n W.some T W.all k r l h);
      }

  split-first : (i r : ℕ) → 0 < i → i ≤ n → r < length (level_at n T i) → Split T i r (first_line n T i r)
  split-first zero r p l h = absurd (omega arith)
  split-first (suc k) r p l h = complete-split n W.some T W.all k r l h

  pub splits : (i r : ℕ) → 0 < i → i ≤ s.gens → r < length (level_at s.gens T i) → Splits T i r
  splits i r p l h = record { at = first_line n T i r; is = split-first i r p l h }

  pub found_at : (i r x : ℕ) → 0 < i → i ≤ s.gens → r < length (level_at s.gens T i) → Split T i r x → Found s.gens T i r (listed_in T x)
  found_at i r x p l h S =
      subst (λ x. Found n T i r (listed_in T x)) (sym (split_one T i r (first_line n T i r) x (split-first i r p l h) S)) (found_first i r p l h)

  -- ---- The representation behind one

  pub found-there : {i r : ℕ} {D : Listed} → Found s.gens T i r D → 8 * D.line + 8 ≤ length T
  found-there {i} {r} {D} F =
      let m : 1 * D.deg ≤ n * D.deg = mul-le-mul_right D.deg W.some in
      line-there T D.line (omega (arith, F.inside, F.positive, m))

  pub found-next : (i r x : ℕ) (D : Listed) → Found s.gens T i r D → suc r < length (level_at s.gens T i) → x ≡ D.line + s.gens * D.deg
      → Found s.gens T i (suc r) (listed_in T x)
  found-next zero r x D F h e = absurd (omega (arith, F.level.0))
  found-next (suc k) r x D F h e =
      let (p, l) = F.level in
      let a = complete-next n W.some T W.all k r l F.listed in
      let b : x ≡ first_line n T (suc k) (suc r) = e ∙ ap₂ (λ l d. l + n * d) F.line F.deg ∙ sym a in
      subst (λ x. Found n T (suc k) (suc r) (listed_in T x)) (sym b) (found_first (suc k) (suc r) p l h)

  -- ---- Level 0

  pub zero-degree : (i r : ℕ) → i ≡ 0 → r < length (level_at s.gens T i) → (1 ≡ (rep_of (level_at s.gens T i) r).deg) × (0 < 1)
  zero-degree i r e h = (subst (λ i. r < length (level_at n T i) → 1 ≡ (rep_of (level_at n T i) r).deg) (sym e) first h, omega arith)
    where
      first : r < length (level_at n T 0) → 1 ≡ (rep_of (level_at n T 0) r).deg
      first h = unfold level_at level_zero rep_of in (let z : 0 ≡ r = omega arith in subst (λ r. 1 ≡ (rep_of (level_at n T 0) r).deg) z refl)

  pub zero-count : (i : ℕ) → i ≡ 0 → 1 ≡ length (level_at s.gens T i)
  zero-count i e = subst (λ i. 1 ≡ length (level_at n T i)) (sym e) (unfold level_at level_zero in refl)

  -- ---- How many

  pub whole-some : (i : ℕ) → 0 < i → i ≤ s.gens → 0 < length (level_at s.gens T i)
  whole-some zero p l = absurd (omega arith)
  whole-some (suc k) p l = complete-some n W.some T W.all k l

  pub last-before : (i : ℕ) → ¬ (i ≡ 0) → i ≡ s.gens → Last T s.lines (length (level_at s.gens T i))
  last-before zero h e = absurd (h refl)
  last-before (suc k) h e = subst (λ l. Last T l (length (level_at n T (suc k)))) (sym W.lines_are) (complete-end n W.some T W.all k e)

  pub next-splits : (i : ℕ) → i < s.gens → Splits T (i + 1) 0
  next-splits i l =
      let e : suc i ≡ i + 1 = omega arith in
      subst (λ i. Splits T i 0) e (splits (suc i) 0 (omega arith) l (complete-some n W.some T W.all i l))

  pub next-before : (i x : ℕ) → ¬ (i ≡ 0) → i < s.gens → Split T (i + 1) 0 x → Last T x (length (level_at s.gens T i))
  next-before zero x h l S = absurd (h refl)
  next-before (suc k) x h l S =
      let e : suc k + 1 ≡ suc (suc k) = omega arith in
      complete-last n W.some T W.all k x l (subst (λ i. Split T i 0 x) e S)

-- ---- One that is found

pub found-fits : {n : ℕ} {T : List ℕ} {k r : ℕ} {D : Listed} → Found n T k r D → (i : ℕ) → i < n → HasLines T i D
found-fits {n} {T} {k} {r} {D} F i l =
    let e : suc i * D.deg ≤ n * D.deg = mul-le-mul_right D.deg l in
    record {
      positive = F.positive;
      first = lines-there T (D.line + D.deg) (omega (arith, F.inside, e));
      top = lines-there T (D.line + i * D.deg + D.deg) (omega (arith, F.inside, e));
    }

pub found-above : {n : ℕ} {T : List ℕ} {i r : ℕ} {D : Listed} → Found n T (i + 1) r D → Found n T (suc i) r D
found-above {n} {T} {i} {r} {D} F = subst (λ k. Found n T k r D) (add-one i) F
