-- Laws of the numbers that a result stands for.
--
--   number-positive, number-nonzero     no refusal has the number 0
--   answer-ok, answer-err    the number of a result, by what it is
use Rattle.std.proofs.Common.{◌≡◌, ◌<◌, Result, Ok, Err, ap, arith}
use Rattle.results.specs.declared.Refusal.{Refusal}
use Rattle.results.specs.declared.Refusal.TheVariants.{PresentationForm, NotPrime, TooLarge, Word, Inconsistent, Short, TableForm, Lines, Relation, Restriction, Intertwiner, Separation, Squares}
use Rattle.results.specs.Numbers.{number, answer}

pub number-positive : (e : Refusal) → 0 < number e
number-positive PresentationForm = omega arith
number-positive NotPrime = omega arith
number-positive TooLarge = omega arith
number-positive Word = omega arith
number-positive Inconsistent = omega arith
number-positive Short = omega arith
number-positive TableForm = omega arith
number-positive Lines = omega arith
number-positive Relation = omega arith
number-positive Restriction = omega arith
number-positive Intertwiner = omega arith
number-positive Separation = omega arith
number-positive Squares = omega arith

pub number-nonzero : (e : Refusal) → number e ≡ 0 → ⊥
number-nonzero e q = omega (arith, number-positive e)

module _ {A : Type 0} where
  pub answer-ok : {r : Result A Refusal} {x : A} → r ≡ Ok x → answer r ≡ 0
  answer-ok q = ap answer q

  pub answer-err : {r : Result A Refusal} {e : Refusal} → r ≡ Err e → answer r ≡ number e
  answer-err q = ap answer q
