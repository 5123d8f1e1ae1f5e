-- `find` meets its contract: the place that is sought stays between the two ends.
use Prim.Native.Nat.{◌-◌}
use Rattle.seek.proofs.Halves.{Halved}
use Rattle.seek.proofs.find.Given as goal

abbrev pub invariant-loop-lo : goal.invariant-loop-lo
invariant-loop-lo l = Halved l.words l.i l.r l.lo l.hi

abbrev pub decreases-loop-lo : goal.decreases-loop-lo
decreases-loop-lo l = l.hi - l.lo
