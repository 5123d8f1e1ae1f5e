-- `pairs_apart` goes through the representations of the level.
use Prim.Native.Nat.{◌-◌}
use Rattle.check_pairs.proofs.Levels.{PassingOn}
use Rattle.check_pairs.proofs.pairs_apart.Given as goal

abbrev pub invariant-loop-r : goal.invariant-loop-r
invariant-loop-r l = PassingOn l.s l.words l.i l.p l.r

abbrev pub decreases-loop-r : goal.decreases-loop-r
decreases-loop-r l = l.reps - l.r
