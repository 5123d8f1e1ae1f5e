-- The powers of one root are level 1: the closed formulas give their lines from the one representation of level 0.
--
--   around-zero, shift_zero, landing-zero      level 0 adds nothing
--   ref-is, exp-is, line-is    a line of an extension of level 0
--   first-is-level             the words of level 1
use mathlib.Core.Path.{◌≡◌, refl, sym, ◌∙◌, ap, ap₂}
use mathlib.Core.Logic.{by_cases}
use mathlib.Core.List.{List, [], ◌∷◌, map}
use Prim.Native.Nat.{ℕ, zero, suc, ◌+◌, ◌*◌, ◌-◌, ◌/◌, ◌%◌, ◌≤◌, ◌<◌}
use native.Mathlib.Nat.{zero-div, mod_self, mod-eq_of_lt, mul-le-mul_right}
use native.Mathlib.Omega.{arith}
use native.Mathlib.Decide.{ℕ_discrete}
use lib.Dec.{leb}
use lib.ListN.{get_or}
use borrow.Author.Tests.{le-leb, lt-leb}
use Rattle.definitions.specs.declared.Entry.{Entry}
use Rattle.definitions.specs.Lists.{upto, blocks, sum}
use Rattle.definitions.specs.Presentation.{Presentation, pair_number}
use Rattle.definitions.specs.Monomial.{entry, col, identity, less, act, scale, no_rep, rep_of}
use Rattle.definitions.specs.Table.{line_of, rep_words, level_words, level_zero}
use Rattle.numbers.proofs.Bools.{cond-true, cond-false, cond-eq, cond-ne}
use Rattle.numbers.proofs.Lists.{iter-fix}
use Rattle.numbers.proofs.Blocks.{get_or-table, length-table, blocks-below}
use Rattle.formulas.specs.Formulas.{Source, source_of, walk, plus, start, around, shift, top_entry, landing, extension_at, given_at, level_by}
use Rattle.first.specs.Roots.{root_ref, root_exp, root_line, root_words, first_words}

module _ (P : Presentation) (m : ℕ) (pos : 0 < m) where
  abbrev S : Source
  S = source_of P m 0 level_zero

  abbrev p : ℕ
  p = P.p 0

  -- ---- Level 0 adds nothing

  zero-mod : 0 % m ≡ 0
  zero-mod = mod-eq_of_lt pos

  less_zero : less m 0 0 ≡ 0
  unfolding less
  less_zero = let e : 0 + (m - 0) ≡ m = omega arith in ap (λ z. (0 + (m - z)) % m) zero-mod ∙ ap (λ x. x % m) e ∙ mod_self m

  act-one : act m (identity 1) (entry 0 0) ≡ entry 0 0
  unfolding act identity col upto
  act-one = ap (entry 0) zero-mod

  around-zero : (k : ℕ) → around S 0 k ≡ entry 0 0
  unfolding around source_of rep_of level_zero
  around-zero zero = refl
  around-zero (suc k) = ap₂ (λ r x. act m (S.matrix r 0) x) (iter-fix (S.target 0) 0 refl k) (around-zero k) ∙ act-one

  shift_zero : shift S 0 ≡ 0
  unfolding shift source_of walk
  shift_zero = ap (λ (x : Entry). less m 0 x.exp) (around-zero p) ∙ less_zero

  root-zero : shift S 0 / p ≡ 0
  root-zero = ap (λ x. x / p) shift_zero ∙ zero-div p

  top-zero : top_entry S 0 (entry 0 0) ≡ entry 0 0
  unfolding top_entry plus source_of rep_of level_zero
  top-zero = (λ o. plus m (root-zero o) (act-one o)) ∙ ap (entry 0) zero-mod

  landing-zero : (j : ℕ) → landing S j 0 ≡ 0
  unfolding landing walk source_of rep_of level_zero
  landing-zero j =
      let conjugate = ap (act m (identity 1)) (iter-fix (top_entry S 0) (entry 0 0) top-zero (suc (P.w 0 j).0)) ∙ act-one in
      ap₂ (λ (a b : Entry). less m a.exp b.exp / (m / p)) conjugate (ap (top_entry S 0) act-one ∙ top-zero)
      ∙ ap (λ x. x / (m / p)) less_zero ∙ zero-div (m / p)

  -- ---- The lines

  module _ (n : ℕ) (rows : List (List ℕ)) (whole : m ≡ P.p 0 * (m / P.p 0)) (words : (j : ℕ) → 0 < j → j < n → (P.w 0 j).0 ≡ get_or (get_or rows (pair_number j 0) []) 0 0) where
    multiple-below : (k : ℕ) → k < p → k * (m / p) < m
    multiple-below k l = go (m / p) whole
      where
        go : (q : ℕ) → m ≡ p * q → k * q < m
        go zero e = absurd (omega (arith, pos, e))
        go (suc q) e = let b : suc k * suc q ≤ p * suc q = mul-le-mul_right (suc q) l in omega (arith, e, b)

    ref-is : (k g : ℕ) → g < n → (extension_at S 0 k).ref g 0 ≡ root_ref p rows k g
    unfolding extension_at root_ref start sum source_of rep_of level_zero
    ref-is k g l = by_cases (ℕ_discrete g 0)
        (λ e. cond-true (leb g 0) 0 _ (le-leb g 0 (omega arith)) ∙ sym (cond-eq g 0 0 _ e))
        (λ e.
        let z : (x : ℕ) → 0 + x ≡ x = λ x. omega arith in
        cond-false (leb g 0) 0 _ (lt-leb g 0 (omega arith)) ∙ z _
        ∙ ap (λ x. x % p) (ap₂ (λ x y. x + k * suc y) (landing-zero g) (words g (omega arith) l) ∙ z _)
        ∙ sym (cond-ne g 0 0 _ e))

    exp-is : (k g : ℕ) → k < p → (col ((extension_at S 0 k).matrix g) 0).exp ≡ root_exp p m k g
    unfolding extension_at root_exp col scale identity upto source_of rep_of level_zero
    exp-is k g l = by_cases (ℕ_discrete g 0)
        (λ e.
        let z : 0 + (0 + k * (m / p)) ≡ k * (m / p) = omega arith in
        ap (λ x. (0 + x) % m) (cond-eq g 0 _ 0 e) ∙ ap (λ x. (0 + (x + k * (m / p))) % m) root-zero ∙ ap (λ x. x % m) z ∙ mod-eq_of_lt (multiple-below k l) ∙ sym (cond-eq g 0 _ 0 e))
        (λ e. ap (λ x. (0 + x) % m) (cond-ne g 0 _ 0 e) ∙ zero-mod ∙ sym (cond-ne g 0 _ 0 e))

    line-is : (k g : ℕ) → k < p → g < n → line_of 1 k (extension_at S 0 k) g 0 ≡ root_line p m rows k g
    unfolding line_of root_line extension_at col scale identity upto source_of rep_of level_zero
    line-is k g a b = λ o. 1 ∷ k ∷ 1 ∷ suc g ∷ ref-is k g b o ∷ 0 ∷ 0 ∷ exp-is k g a o ∷ []

    root_is : (k : ℕ) → k < p → rep_words n 1 k (extension_at S 0 k) ≡ root_words n p m rows k
    unfolding rep_words root_words extension_at source_of rep_of level_zero blocks
    root_is k l = blocks-below n _ _ (λ g h. line-is k g l h)

    pub first-is-level : level_words n 1 (level_by (source_of P m 0 level_zero)) ≡ first_words n (P.p 0) m rows
    unfolding level_words level_by given_at first_words source_of rep_of level_zero blocks
    first-is-level =
        ap (λ z. blocks z (λ r. rep_words n 1 r (rep_of (map (extension_at S 0) (upto p)) r))) (length-table (extension_at S 0) p)
        ∙ blocks-below p _ _ (λ k l. ap (rep_words n 1 k) (get_or-table (extension_at S 0) p k no_rep l) ∙ root_is k l)
