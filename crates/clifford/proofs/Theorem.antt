-- The table of the Baum-Clausen steps passes the judgement, for every presentation that is not refused.
--
--   table-passes         for an accepted presentation
--   accepted             relations of a text that refusals 11, 12, 14 and 15 let pass are accepted
--   built-passes         and their table passes
use mathlib.Core.Path.{◌≡◌, refl, sym, ◌∙◌, ap, subst}
use mathlib.Core.Bool.{true, false}
use mathlib.Core.List.{List, [], ◌∷◌}
use Prim.Native.Nat.{ℕ, zero, suc, ◌*◌, ◌%◌, ◌≤◌, ◌<◌}
use native.Mathlib.Nat.{mul-mod_right}
use native.Mathlib.Omega.{arith}
use lib.Dec.{leb}
use lib.ListN.{length}
use borrow.Author.Tests.{eq-eqb, lt-ltb, leb-true, not-false}
use Rattle.definitions.specs.Lists.{blocks, same}
use Rattle.definitions.specs.Presentation.{line_words, order, Relations, well_formed, presentation, is_prime, some_not_prime, misused}
use Rattle.definitions.specs.Consistency.{Consistent, level_test, test}
use Rattle.definitions.specs.Monomial.{identity, Level, rep_of}
use Rattle.definitions.specs.Table.{level_words, level_zero, level_at, complete}
use Rattle.definitions.specs.Steps.{levels, table_with, table_of}
use Rattle.definitions.specs.Answers.{judgement}
use Rattle.numbers.proofs.Bools.{and_left, and_intro}
use Rattle.numbers.proofs.Lists.{all_below-elim, all_below-intro}
use Rattle.numbers.proofs.Prime.{Units, prime-units}
use Rattle.numbers.proofs.Blocks.{blocks-below, length-table}
use Rattle.group.proofs.Group.{Test}
use Rattle.group.proofs.Tests.{test-holds}
use Rattle.group.proofs.Order.{order-positive}
use Rattle.group.proofs.Context.{context, accept}
use Rattle.clifford.specs.Stands.{Restricts}
use Rattle.clifford.specs.Accepted.{Accepted}
use Rattle.clifford.proofs.Standing.{at_zero, Setting, standing, restricts, setting}
use Rattle.clifford.proofs.Lines.{LevelsListed, Agrees, table, table-length, read_back}
use Rattle.clifford.proofs.Agreement.{agree-stands, agree-restricts, agree-words}
use Rattle.clifford.proofs.Passing.{Founded, levels-pass}

pub same_self : (xs : List ℕ) → same xs xs ≡ true
unfolding same
same_self [] = refl
same_self (x ∷ xs) = and_intro _ _ (eq-eqb x x refl) (same_self xs)

-- level 0 agrees with itself
zero-agrees : (n : ℕ) → Agrees n level_zero level_zero
unfolding rep_of level_zero identity
zero-agrees n = record {
  same_length = refl;
  same_degree = λ r l. refl;
  size = λ r g l a. at_zero (λ r. length ((rep_of level_zero r).matrix g) ≡ (rep_of level_zero r).deg) (length-table _ 1) r l;
  same_column = λ r g c l a b. refl;
  same_ref = λ r g c l a b. refl;
}

module _ (A : Accepted) where
  open A use {C, tests, positive}
  open C use {P}
  open P use {n}

  abbrev m : ℕ
  m = order P n

  abbrev pos : 0 < m
  pos = order-positive A.C n

  abbrev G : Setting
  G = setting A

  -- the levels of the steps, as a list
  abbrev pub W : LevelsListed
  W = record { n = n; positive = positive; L = λ k. levels P m (suc k); degree_pos = λ k r l h. (standing G (suc k) l).stands.degree_pos r h }

  pub table_is : table_of A.C.P ≡ table W
  unfolding table_of table_with table
  table_is = refl

  abbrev T : List ℕ
  T = table W

  abbrev Lv : ℕ → Level
  Lv = level_at n T

  -- ---- The levels that the table says

  agrees_at : (i : ℕ) → i ≤ n → Agrees n (levels P m i) (Lv i)
  unfolding levels level_at
  agrees_at zero l = zero-agrees n
  agrees_at (suc i) l = read_back W i l

  founded-at : (i : ℕ) → i ≤ n → Founded C m pos i (Lv i)
  founded-at i l =
      let St = standing G i l in
      record { Ω = St.Ω; F = St.F; stands = agree-stands C n m pos i l (levels P m i) (Lv i) (agrees_at i l) St.F St.stands }

  restricts-at : (i : ℕ) → i < n → (r : ℕ) → r < length (Lv (suc i)) → Restricts i (Lv i) (rep_of (Lv (suc i)) r)
  restricts-at i l r h =
      let h' : r < length (levels P m (suc i)) = subst (λ z. r < z) (sym (agrees_at (suc i) l).same_length) h in
      agree-restricts n i l (levels P m i) (Lv i) (levels P m (suc i)) (Lv (suc i)) (agrees_at i (omega arith)) (agrees_at (suc i) l) r h'
      (restricts G i l r h')

  pub whole_words : (k : ℕ) × (length (table_of A.C.P) ≡ line_words * k)
  whole_words = (_, ap length table_is ∙ table-length W)

  -- ---- Its lines

  complete-holds : complete n T ≡ true
  unfolding complete table
  complete-holds =
      let lines : T ≡ blocks n (λ i. level_words n (suc i) (Lv (suc i))) = blocks-below n _ (λ i. level_words n (suc i) (Lv (suc i)))
      (λ i l. agree-words n (suc i) (levels P m (suc i)) (Lv (suc i)) (agrees_at (suc i) l)) in
      and_intro _ _ (all_below-intro n _ (λ i l. lt-ltb _ _ (founded-at (suc i) l).stands.nonempty)) (ap (same T) (sym lines) ∙ same_self T)

  -- ---- The judgement

  pub table-passes : judgement A.C.P (order A.C.P A.C.P.n) (table_of A.C.P) ≡ 0
  table-passes = ap (judgement P m) table_is ∙ levels-pass C tests m pos T (λ i l. founded-at (suc i) l) restricts-at
      (eq-eqb _ _ (ap (λ z. z % line_words) (table-length W) ∙ mul-mod_right line_words _)) complete-holds

-- ---- For what a text says

module _ (R : Relations) (formed : well_formed R ≡ true) (primes : some_not_prime R ≡ false) (used : misused R ≡ false)
    (consistent : Consistent (presentation R)) where
  tests : (k : ℕ) → k < (presentation R).n → Test (context R formed primes used) k
  unfolding context test
  tests k l = test-holds (context R formed primes used) k
      (all_below-elim (presentation R).n (level_test (presentation R)) ((accept R formed primes used).1 consistent) k l)

  units : (j : ℕ) → j < (presentation R).n → Units ((presentation R).p j)
  unfolding some_not_prime presentation
  units j l = prime-units ((presentation R).p j) (all_below-elim R.n (λ j. is_prime ((presentation R).p j)) (not-false _ primes) j l)

  pub accepted : Accepted
  unfolding context well_formed presentation
  accepted = record {
    C = context R formed primes used;
    tests = tests;
    units = units;
    positive = leb-true 1 R.n (and_left (leb 1 R.n) _ (and_left _ _ (and_left _ _ formed)));
  }

  pub accepted-is : accepted.C.P ≡ presentation R
  unfolding accepted context
  accepted-is = refl

  pub built-passes : judgement (presentation R) (order (presentation R) (presentation R).n) (table_of (presentation R)) ≡ 0
  built-passes = subst (λ P. judgement P (order P P.n) (table_of P) ≡ 0) accepted-is (table-passes accepted)

  -- the words of the table are whole lines
  pub table-words : (k : ℕ) × (length (table_of (presentation R)) ≡ line_words * k)
  table-words = let (k, e) = whole_words accepted in (k, ap (λ P. length (table_of P)) (sym accepted-is) ∙ e)
