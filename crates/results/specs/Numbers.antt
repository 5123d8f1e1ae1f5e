-- The numbers that a result stands for: a refusal has its own, and whatever is not refused has 0.
--
--   number        that of a refusal
--   answer        that of a result
--   counted       what was counted, and 0 where the call is refused
--   yes           1 for yes, and 0 for no or where the call is refused
use Rattle.std.specs.Prelude.{Bool, cond, ℕ, Result, Ok, Err}
use Rattle.results.specs.declared.Refusal.{Refusal}
use Rattle.results.specs.declared.Refusal.TheVariants.{PresentationForm, NotPrime, TooLarge, Word, Inconsistent, Short, TableForm, Lines, Relation, Restriction, Intertwiner, Separation, Squares}

abbrev pub number : Refusal → ℕ
number PresentationForm = 11
number NotPrime = 12
number TooLarge = 13
number Word = 14
number Inconsistent = 15
number Short = 16
number TableForm = 20
number Lines = 21
number Relation = 22
number Restriction = 23
number Intertwiner = 24
number Separation = 25
number Squares = 26

abbrev pub answer : {A : Type 0} → Result A Refusal → ℕ
answer (Ok x) = 0
answer (Err e) = number e

abbrev pub counted : Result ℕ Refusal → ℕ
counted (Ok n) = n
counted (Err e) = 0

abbrev pub yes : Result Bool Refusal → ℕ
yes (Ok b) = cond b 1 0
yes (Err e) = 0
