-- A complete table has its heads in order: the converse of `headed-complete`.
--
--   Wide                 whole lines, each with a positive degree
--   complete-wide        a complete table has such lines
--   complete-degree      so what it lists has a positive degree
--   complete-headed      and its heads are in order
use mathlib.Core.Path.{◌≡◌, refl, sym, ◌∙◌, ap, ap₂, subst}
use mathlib.Core.Bool.{Bool, true, false, cond, false≢true}
use mathlib.Core.List.{List, [], ◌∷◌, ◌++◌}
use Prim.Native.Nat.{ℕ, zero, suc, ◌+◌, ◌*◌, ◌-◌, ◌≤◌, ◌<◌}
use native.Mathlib.Omega.{arith}
use native.Mathlib.Decide.{dec_lt}
use lib.Dec.{eqb, ltb}
use lib.ListN.{length, get_or, length-append, get_or-append}
use lib.Seq.{get_or-append-add}
use borrow.Author.Tests.{eqb-true, ltb-true}
use Rattle.definitions.specs.Lists.{blocks, sum, same, all_below}
use Rattle.definitions.specs.Presentation.{line_words}
use Rattle.definitions.specs.Monomial.{col, Rep, Level, rep_of, no_rep}
use Rattle.definitions.specs.Table.{DEG, line_of, rep_words, level_words, word_at, line_count, begins, degrees, first_line, rep_at, level_at, complete}
use Rattle.numbers.proofs.Bools.{and_left, and_right}
use Rattle.numbers.proofs.Lists.{all_below-elim, length-blocks}
use Rattle.numbers.proofs.Sums.{sum-zero, sum-suc, owner, first-le}
use Rattle.numbers.proofs.Blocks.{get_or-table, length-table, get_or-blocks}
use Rattle.clifford.proofs.Lines.{LevelsListed, table, table-length, line-count, rep_lines, level_lines, line_number, word-at}
use Rattle.heads.specs.Heads.{LineHead, Heads, first_from, base_of, Headed}
use Rattle.heads.proofs.Positions.{first-zero, first-suc, base-zero, base-suc}

same-eq : (xs ys : List ℕ) → same xs ys ≡ true → xs ≡ ys
unfolding same
same-eq [] [] h = refl
same-eq [] (y ∷ ys) h = absurd (false≢true h)
same-eq (x ∷ xs) [] h = absurd (false≢true h)
same-eq (x ∷ xs) (y ∷ ys) h = ap₂ (◌∷◌) (eqb-true x y (and_left (eqb x y) (same xs ys) h)) (same-eq xs ys (and_right (eqb x y) (same xs ys) h))

-- ---- Lines with positive degrees

record Wide (xs : List ℕ) : Type 0 where
  lines : ℕ
  size : length xs ≡ line_words * lines
  each : (l : ℕ) → l < lines → 0 < word_at xs l DEG

wide-append : (xs ys : List ℕ) → Wide xs → Wide ys → Wide (xs ++ ys)
unfolding line_words word_at
wide-append xs ys a b = record {
  lines = a.lines + b.lines;
  size = length-append xs ys ∙ ap₂ (◌+◌) a.size b.size ∙ omega arith;
  each = λ l h. at l h (dec_lt l a.lines);
}
  where
    at : (l : ℕ) → l < a.lines + b.lines → Dec (l < a.lines) → 0 < get_or (xs ++ ys) (8 * l + 2) 0
    at l h (yes p) = subst (λ z. 0 < z) (sym (get_or-append xs ys 0 (8 * l + 2) (omega (arith, a.size)))) (a.each l p)
    at l h (no p) =
        let k : ℕ = l - a.lines in
        let e : 8 * l + 2 ≡ length xs + (8 * k + 2) = omega (arith, a.size) in
        subst (λ z. 0 < z) (sym (ap (λ z. get_or (xs ++ ys) z 0) e ∙ get_or-append-add xs ys (8 * k + 2) 0)) (b.each k (omega arith))

wide-blocks : (N : ℕ) (f : ℕ → List ℕ) → ((k : ℕ) → k < N → Wide (f k)) → Wide (blocks N f)
unfolding blocks line_words
wide-blocks zero f h = record { lines = 0; size = refl; each = λ l a. absurd (omega arith) }
wide-blocks (suc N) f h = wide-append (blocks N f) (f N) (wide-blocks N f (λ k l. h k (omega arith))) (h N (omega arith))

wide-line : (i r : ℕ) (D : Rep) (g c : ℕ) → c < D.deg → Wide (line_of i r D g c)
unfolding line_of line_words word_at
wide-line i r D g c h = record { lines = 1; size = refl; each = at }
  where
    at : (l : ℕ) → l < 1 → 0 < get_or (i ∷ r ∷ D.deg ∷ suc g ∷ D.ref g c ∷ c ∷ (col (D.matrix g) c).row ∷ (col (D.matrix g) c).exp ∷ []) (8 * l + 2) 0
    at zero e = let p : 0 < D.deg = omega arith in p
    at (suc l) e = absurd (omega arith)

wide-level : (n i : ℕ) (L : Level) → Wide (level_words n i L)
unfolding level_words rep_words
wide-level n i L =
    wide-blocks (length L) _ (λ r a. wide-blocks n _ (λ g b. wide-blocks (rep_of L r).deg _ (λ c d. wide-line i r (rep_of L r) g c d)))

-- ---- One of the lines that pass a test

module _ (q : ℕ → Bool) (v : ℕ → ℕ) where
  chosen : ℕ → List ℕ
  chosen l = cond (q l) (v l ∷ []) []

  chosen-value : (l κ : ℕ) → κ < length (chosen l) → get_or (chosen l) κ 0 ≡ v l
  unfolding chosen
  chosen-value l κ h = go (q l) κ h
    where
      go : (b : Bool) (κ : ℕ) → κ < length (cond b (v l ∷ []) []) → get_or (cond b (v l ∷ []) []) κ 0 ≡ v l
      go true zero h = refl
      go true (suc κ) h = absurd (omega arith)
      go false κ h = absurd (omega arith)

  -- an element of the list of all is the value of one of them
  chosen-from : (N r : ℕ) → r < length (blocks N chosen) → (l : ℕ) × (l < N) × (get_or (blocks N chosen) r 0 ≡ v l)
  chosen-from N r h =
      let o = owner (λ l. length (chosen l)) N r (subst (λ z. r < z) (length-blocks N chosen) h) in
      let e = get_or-blocks 0 N chosen o.s o.κ o.s_below o.κ-below in
      (o.s, o.s_below, ap (λ z. get_or (blocks N chosen) z 0) (sym o.is) ∙ e ∙ chosen-value o.s o.κ o.κ-below)

-- ---- What a complete table lists

module _ (n : ℕ) (positive : 0 < n) (T : List ℕ) (H : complete n T ≡ true) where
  abbrev pub L : ℕ → Level
  L k = level_at n T (suc k)

  abbrev levels-listed : Bool
  levels-listed = all_below n (λ i. ltb 0 (length (level_at n T (suc i))))

  abbrev all_lines : List ℕ
  all_lines = blocks n (λ i. level_words n (suc i) (level_at n T (suc i)))

  some : (k : ℕ) → k < n → 0 < length (L k)
  unfolding complete
  some k l = ltb-true 0 (length (L k)) (all_below-elim n (λ i. ltb 0 (length (level_at n T (suc i)))) (and_left levels-listed (same T all_lines) H) k l)

  lines_are : T ≡ all_lines
  unfolding complete
  lines_are = same-eq T all_lines (and_right levels-listed (same T all_lines) H)

  complete-wide : Wide T
  complete-wide = subst Wide (sym lines_are) (wide-blocks n _ (λ k l. wide-level n (suc k) (L k)))

  count-is : (k : ℕ) → length (L k) ≡ length (degrees T (suc k))
  unfolding level_at
  count-is k = length-table (λ r. rep_at T (first_line n T (suc k) r) (get_or (degrees T (suc k)) r 0)) (length (degrees T (suc k)))

  pub complete-rep : (k r : ℕ) → r < length (L k) → rep_of (L k) r ≡ rep_at T (first_line n T (suc k) r) (rep_of (L k) r).deg
  unfolding level_at rep_of rep_at
  complete-rep k r l =
      let f : ℕ → Rep = λ r. rep_at T (first_line n T (suc k) r) (get_or (degrees T (suc k)) r 0) in
      let e = get_or-table f (length (degrees T (suc k))) r no_rep (omega (arith, count-is k)) in
      e ∙ ap (rep_at T (first_line n T (suc k) r)) (sym (ap (λ (D : Rep). D.deg) e))

  pub complete-degree : (k r : ℕ) → k < n → r < length (L k) → 0 < (rep_of (L k) r).deg
  unfolding level_at rep_of rep_at degrees chosen line_count line_words
  complete-degree k r l h =
      let f : ℕ → Rep = λ r. rep_at T (first_line n T (suc k) r) (get_or (degrees T (suc k)) r 0) in
      let d = ap (λ (D : Rep). D.deg) (get_or-table f (length (degrees T (suc k))) r no_rep (omega (arith, count-is k))) in
      let p = chosen-from (begins T (suc k)) (λ l. word_at T l DEG) (line_count T) r (omega (arith, count-is k)) in
      let W = complete-wide in
      let inside : p.0 < W.lines = omega (arith, p.1, W.size) in
      subst (λ z. 0 < z) (sym (d ∙ p.2)) (W.each p.0 inside)

  abbrev W : LevelsListed
  W = record { n = n; positive = positive; L = L; degree_pos = complete-degree }

  table_is : T ≡ table W
  unfolding table
  table_is = lines_are

  word-is : (k r g c w : ℕ) → k < n → r < length (L k) → g < n → c < (rep_of (L k) r).deg → w < line_words
      → word_at T (line_number W k r g c) w ≡ get_or (line_of (suc k) r (rep_of (L k) r) g c) w 0
  word-is k r g c w a b d e h = ap (λ T. word_at T (line_number W k r g c) w) table_is ∙ word-at W k r g c w a b d e h

  -- ---- Where its representations begin

  abbrev count : ℕ → ℕ
  count k = length (L k)

  abbrev start : ℕ → ℕ → ℕ
  start k r = sum k (level_lines W) + sum r (rep_lines W k)

  degree-at : (k r : ℕ) → k < n → r < count k → word_at T (start k r) DEG ≡ (rep_of (L k) r).deg
  unfolding line_number line_of line_words
  degree-at k r a b =
      let e : start k r ≡ line_number W k r 0 0 = omega arith in
      ap (λ l. word_at T l DEG) e ∙ word-is k r 0 0 2 a b positive (complete-degree k r a b) (omega arith)

  first-is : (k r : ℕ) → k < n → r ≤ count k → first_from n T (sum k (level_lines W)) r ≡ start k r
  first-is k zero a b = omega (arith, first-zero n T (sum k (level_lines W)), sum-zero (rep_lines W k))
  first-is k (suc r) a b =
      let f = first-is k r a (omega arith) in
      let d : word_at T (first_from n T (sum k (level_lines W)) r) DEG ≡ (rep_of (L k) r).deg = ap (λ l. word_at T l DEG) f ∙ degree-at k r a b in
      let e : rep_lines W k r ≡ n * (rep_of (L k) r).deg = unfold rep_lines in refl in
      omega (arith, first-suc n T (sum k (level_lines W)) r, f, ap (λ d. n * d) d, sum-suc r (rep_lines W k), e)

  base_is : (k : ℕ) → k ≤ n → base_of n T count k ≡ sum k (level_lines W)
  base_is zero l = base-zero n T count ∙ sym (sum-zero (level_lines W))
  base_is (suc k) l =
      let e : level_lines W k ≡ sum (count k) (rep_lines W k) = unfold level_lines in refl in
      base-suc n T count k ∙ ap (λ b. first_from n T b (count k)) (base_is k (omega arith)) ∙ first-is k (count k) l (omega arith)
      ∙ omega (arith, sum-suc k (level_lines W), e)

  begins-at : (k r : ℕ) → k < n → r < count k → first_from n T (base_of n T count k) r ≡ start k r
  begins-at k r a b = ap (λ b. first_from n T b r) (base_is k (omega arith)) ∙ first-is k r a (omega arith)

  lines-all : line_count T ≡ sum n (level_lines W)
  lines-all = ap line_count table_is ∙ line-count W

  -- ---- Its heads

  head_at : (k r g c : ℕ) → k < n → r < count k → g < n → c < (rep_of (L k) r).deg → LineHead T (line_number W k r g c) (suc k) r (rep_of (L k) r).deg g c
  unfolding line_of line_words
  head_at k r g c a b d e = record {
    level = word-is k r g c 0 a b d e (omega arith);
    rep = word-is k r g c 1 a b d e (omega arith);
    deg = word-is k r g c 2 a b d e (omega arith);
    gen = word-is k r g c 3 a b d e (omega arith);
    col = word-is k r g c 5 a b d e (omega arith);
  }

  heads-at : (k r : ℕ) → k < n → r < count k → Heads n T (start k r) (suc k) r
  unfolding line_number rep_lines level_lines
  heads-at k r a b =
      let d : ℕ = (rep_of (L k) r).deg in
      let e = degree-at k r a b in
      let l = first-le (rep_lines W k) r (count k) b in
      let m = first-le (level_lines W) k n a in
      let q : word_at T (start k r) DEG * n ≡ d * n = ap (λ d. d * n) e in
      record {
        positive = subst (λ d. 0 < d) (sym e) (complete-degree k r a b);
        inside = omega (arith, lines-all, q, l, m);
        head = λ g c gl cl.
            let c_below : c < d = subst (λ d. c < d) e cl in
            let line : line_number W k r g c ≡ start k r + g * word_at T (start k r) DEG + c = omega (arith, ap (λ d. g * d) e) in
            subst (λ d. LineHead T (start k r + g * word_at T (start k r) DEG + c) (suc k) r d g c) (sym e)
            (subst (λ l. LineHead T l (suc k) r d g c) line (head_at k r g c a b gl c_below));
      }

  pub complete-headed : Headed n T
  complete-headed = record {
    count = λ k. length (level_at n T (suc k));
    some = some;
    heads = λ k r a b. subst (λ l. Heads n T l (suc k) r) (sym (begins-at k r a b)) (heads-at k r a b);
    ends = base_is n (omega arith) ∙ sym lines-all;
    whole = ap length table_is ∙ table-length W ∙ ap (λ z. line_words * z) (sym lines-all);
  }
