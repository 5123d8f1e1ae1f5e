-- `clear`: the notes below k are noted as orbits of their own.
use Rattle.survey.specs.Notes.{Cleared}
use Rattle.survey.proofs.clear.Given as goal

abbrev pub invariant-loop-k : goal.invariant-loop-k
invariant-loop-k l = Cleared l.k l.initial.notes l.notes
