-- `mark_orbits`: the orbits of the representations before r are marked.
use Rattle.survey.specs.Below.{Marking}
use Rattle.survey.proofs.mark_orbits.Given as goal

abbrev pub invariant-loop-r : goal.invariant-loop-r
invariant-loop-r l = Marking l.f l.low l.initial.notes l.notes l.r 0
