-- `find_shifts`: the constants of the representations before r are noted.
use Rattle.survey.specs.Notes.{shifts, without_shift, Beside}
use Rattle.survey.specs.Below.{leading_in}
use Rattle.survey.proofs.Notes.{Filled}
use Rattle.survey.proofs.find_shifts.Given as goal

abbrev pub invariant-loop-r : goal.invariant-loop-r
invariant-loop-r l = Beside without_shift l.initial.notes l.notes × Filled (shifts l.notes) (leading_in l.f l.low l.u) l.r
