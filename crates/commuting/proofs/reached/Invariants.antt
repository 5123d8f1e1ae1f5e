-- `reached` meets its contract: the words with the generators from l up to j are empty.
use Rattle.commuting.specs.Commuting.{Reach}
use Rattle.commuting.proofs.reached.Given as goal

abbrev pub invariant-loop-l : goal.invariant-loop-l
invariant-loop-l l = Reach l.rows l.j l.l
