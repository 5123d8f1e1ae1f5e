-- `clear`: the notes below k are orbits of their own.
use native.Mathlib.Omega.{arith}
use Rattle.survey.proofs.Notes.{cleared_more}
use Rattle.survey.proofs.clear.Goals as goal

pub loop-k-preserved : goal.loop-k-preserved
loop-k-preserved c = cleared_more c.loop-k.notes (omega arith) c.loop-k.invariant
