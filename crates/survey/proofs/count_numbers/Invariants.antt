-- `count_numbers`: c is the sum of what the representations before r give.
use mathlib.Core.Path.{◌≡◌}
use Rattle.survey.specs.Notes.{numbers, without_number, Beside}
use Rattle.survey.specs.Below.{number_in}
use Rattle.survey.proofs.Notes.{Filled}
use Rattle.survey.proofs.count_numbers.Given as goal

abbrev pub invariant-loop-r : goal.invariant-loop-r
invariant-loop-r l = Beside without_number l.initial.notes l.notes × (l.c ≡ number_in l.f l.low l.r) × Filled (numbers l.notes) (number_in l.f l.low) l.r
