-- `restrictions_hold` tests the levels one by one.
use Prim.Native.Nat.{◌-◌, ◌<◌}
use Rattle.seek.proofs.Among.{UpTo}
use Rattle.check_blocks.proofs.Levels.{HoldingBehind, asks}
use Rattle.check_blocks.proofs.restrictions_hold.Given as goal

abbrev pub invariant-loop-i : goal.invariant-loop-i
invariant-loop-i l = UpTo l.s l.words (HoldingBehind l.s l.words l.from) (asks l.s l.words) l.i × (0 < l.i)

abbrev pub decreases-loop-i : goal.decreases-loop-i
decreases-loop-i l = l.gens - l.i
