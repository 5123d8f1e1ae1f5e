-- Level 1 of the steps is the powers of one root.
--
--   exponent-told             an exponent of generator 0, as rows have it
--   level-one                 the lines of level 1
--   exponents-below           those exponents are below the prime
use mathlib.Core.Path.{◌≡◌, sym, ◌∙◌, ap, subst}
use mathlib.Core.List.{List, []}
use Prim.Native.Nat.{ℕ, ◌<◌}
use lib.ListN.{get_or}
use Rattle.definitions.specs.Presentation.{NF, to_nf, pair_number}
use Rattle.definitions.specs.Table.{level_words, level_zero}
use Rattle.definitions.specs.Steps.{levels}
use Rattle.formulas.specs.Formulas.{source_of, level_by}
use Rattle.group.proofs.Order.{order-positive}
use Rattle.clifford.specs.Accepted.{Accepted}
use Rattle.agreement.proofs.Table.{level-by-formulas}
use Rattle.rows.specs.Rows.{Reads}
use Rattle.first.specs.Roots.{WordsBelow, first_words}
use Rattle.first.proofs.Level.{first-is-level}
use Rattle.levels.specs.Built.{modulus, level_of}
use Rattle.levels.proofs.Room.{whole}

module _ (A : Accepted) (rows : List (List ℕ)) {primes : List ℕ} (told : Reads A.C.P A.C.P.n primes rows) where
  exponent-told : (j : ℕ) → 0 < j → j < A.C.P.n → (A.C.P.w 0 j).0 ≡ get_or (get_or rows (pair_number j 0) []) 0 0
  unfolding to_nf
  exponent-told j a b = sym (ap (λ (x : NF 1). x.0) (told.w_is 0 j a b))

  formulas-one : level_words A.C.P.n 1 (level_of A 1) ≡ level_words A.C.P.n 1 (level_by (source_of A.C.P (modulus A) 0 level_zero))
  unfolding levels
  formulas-one = level-by-formulas A 0 A.positive

  pub level-one : level_words A.C.P.n 1 (level_of A 1) ≡ first_words A.C.P.n (A.C.P.p 0) (modulus A) rows
  level-one = formulas-one ∙ first-is-level A.C.P (modulus A) (order-positive A.C A.C.P.n) A.C.P.n rows (whole A 0 A.positive) exponent-told

  pub exponents-below : WordsBelow A.C.P.n (A.C.P.p 0) rows
  exponents-below = record { below = λ j a b. subst (λ x. x < A.C.P.p 0) (exponent-told j a b) (A.C.w_valid 0 j).0 }
