-- The table of an accepted presentation under the ceilings can be written: each of its values has at most nine digits.
--
--   small-cons, small-append, small-blocks     values of one more word, of two lists, of many
--   reps-low              representations of a level, level 0 among them, are at most its order
--   ref-low, ref-own      references of the generators of a level are below, those of the others in the level
--   ref-small             so that every reference is at most the ceiling of the order
--   line_small            the eight words of a line
--   table-small           the words of the table
use mathlib.Core.Path.{◌≡◌, refl, sym, ◌∙◌, ap, subst}
use mathlib.Core.Logic.{by_cases}
use mathlib.Core.Bool.{true}
use mathlib.Core.List.{List, [], ◌∷◌, ◌++◌}
use Prim.Native.Nat.{ℕ, zero, suc, ◌*◌, ◌/◌, ◌%◌, ◌≤◌, ◌<◌}
use native.Mathlib.Nat.{mod-lt, div-add-mod', div-lt_iff_lt-mul}
use native.Mathlib.Omega.{arith}
use native.Mathlib.Decide.{dec_lt}
use lib.Dec.{leb}
use lib.ListN.{length}
use borrow.Author.Tests.{le-leb}
use Rattle.definitions.specs.Lists.{blocks, all}
use Rattle.definitions.specs.Text.{largest, small}
use Rattle.definitions.specs.Presentation.{Presentation, order}
use Rattle.definitions.specs.Monomial.{Rep, Level, rep_of}
use Rattle.definitions.specs.Table.{level_zero, line_of, rep_words, level_words}
use Rattle.definitions.specs.Steps.{levels, table_with, table_of}
use Rattle.numbers.proofs.Bools.{and_left, and_right, and_intro}
use Rattle.clifford.specs.Stands.{Restricts}
use Rattle.clifford.specs.Accepted.{Accepted}
use Rattle.clifford.proofs.Standing.{Standing, standing, restricts, setting}
use Rattle.levels.specs.Built.{degree_in, WithinCeilings}
use Rattle.levels.proofs.Room.{order_le, degree-le, reps-le}
use Rattle.levels.proofs.Words.{column_below}
use Rattle.levels.proofs.Standing.{ref-in}

-- ---- Lists of values

small-cons : (v : ℕ) (vs : List ℕ) → v ≤ 999999999 → small vs ≡ true → small (v ∷ vs) ≡ true
unfolding small all largest
small-cons v vs l h = and_intro (leb v 999999999) _ (le-leb v 999999999 l) h

small-append : (xs ys : List ℕ) → small xs ≡ true → small ys ≡ true → small (xs ++ ys) ≡ true
unfolding small all
small-append [] ys h k = k
small-append (x ∷ xs) ys h k = and_intro (leb x largest) _ (and_left (leb x largest) _ h) (small-append xs ys (and_right (leb x largest) _ h) k)

small-blocks : (n : ℕ) (f : ℕ → List ℕ) → ((k : ℕ) → k < n → small (f k) ≡ true) → small (blocks n f) ≡ true
unfolding blocks small all
small-blocks zero f h = refl
small-blocks (suc n) f h = small-append (blocks n f) (f n) (small-blocks n f (λ k l. h k (omega arith))) (h n (omega arith))

module _ (A : Accepted) where
  abbrev P : Presentation
  P = A.C.P

  abbrev n : ℕ
  n = A.C.P.n

  abbrev m : ℕ
  m = order P n

  -- ---- References

  reps-low : (i : ℕ) → i ≤ n → length (levels P m i) ≤ order P i
  unfolding levels level_zero order
  reps-low zero l = omega arith
  reps-low (suc k) l = reps-le A k l

  module _ (k : ℕ) (l : k < A.C.P.n) where
    abbrev L : Level
    L = levels P m (suc k)

    abbrev D : ℕ → Rep
    D r = rep_of L r

    abbrev d : ℕ → ℕ
    d = degree_in A k

    abbrev stands_here : Standing (setting A) (suc k) L
    stands_here = standing (setting A) (suc k) l

    -- a column stands in one of the blocks
    ref-low : (r g c : ℕ) → r < length L → g < suc k → c < d r → (D r).ref g c < length (levels P m k)
    ref-low r g c h a b =
        let R : Restricts k (levels P m k) (D r) = restricts (setting A) k l r h in
        let w : ℕ = R.width in
        let within : c < R.count * w = subst (λ x. c < x) R.degree b in
        let block : c / w < R.count = (div-lt_iff_lt-mul {k = w} {x = c} {y = R.count} R.width_pos).1 within in
        let e : (D r).ref g c ≡ R.part (c / w) = ap ((D r).ref g) (sym (div-add-mod' c w)) ∙ R.refers g a (c / w) (c % w) block (mod-lt c R.width_pos) in
        subst (λ x. x < length (levels P m k)) (sym e) (R.part_below (c / w) block)

    ref-own : (r g c : ℕ) → r < length L → suc k ≤ g → g < n → c < d r → (D r).ref g c < length L
    ref-own r g c h a b e =
        subst (λ x. x < length L) (sym (stands_here.stands.refers g a b r h c e ∙ stands_here.literal g r)) (ref-in A k l g r a b h)

    ref-small : (r g c : ℕ) → r < length L → g < n → c < d r → (D r).ref g c ≤ m
    ref-small r g c h a b = by_cases (dec_lt g (suc k))
        (λ e. let q = ref-low r g c h e b in let s = reps-low k (omega arith) in let t = order_le A k (omega arith) in omega arith)
        (λ e. let q = ref-own r g c h (omega arith) a b in let s = reps-le A k l in let t = order_le A (suc k) l in omega arith)

    -- ---- Lines

    line_small : WithinCeilings A → (r g c : ℕ) → r < length L → g < n → c < d r → small (line_of (suc k) r (D r) g c) ≡ true
    unfolding line_of
    line_small S r g c h a b =
        let few = S.few in
        let low = S.low in
        let own = reps-le A k l in
        let deg = degree-le A k l r h in
        let ord = order_le A (suc k) l in
        let ref = ref-small r g c h a b in
        let B = column_below A k l r g c h a b in
        let row = B.row in
        let exp = B.exp in
        small-cons _ _ (omega arith) (small-cons _ _ (omega arith) (small-cons _ _ (omega arith) (small-cons _ _ (omega arith)
        (small-cons _ _ (omega arith) (small-cons _ _ (omega arith) (small-cons _ _ (omega arith) (small-cons _ _ (omega arith) nothing)))))))
      where
        nothing : small [] ≡ true
        nothing = unfold small all in refl

    level-small : WithinCeilings A → small (level_words n (suc k) L) ≡ true
    unfolding level_words rep_words
    level-small S = small-blocks (length L) _ (λ r h. small-blocks n _ (λ g a. small-blocks (d r) _ (λ c b. line_small S r g c h a b)))

  pub table-small : WithinCeilings A → small (table_of A.C.P) ≡ true
  unfolding table_of table_with
  table-small S = small-blocks n _ (λ k l. level-small k l S)
