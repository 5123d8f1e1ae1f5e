-- `squares_hold` tests the levels one by one.
use Prim.Native.Nat.{◌-◌}
use Rattle.check_blocks.proofs.Squares.{AddingUp}
use Rattle.check_blocks.proofs.squares_hold.Given as goal

abbrev pub invariant-loop-i : goal.invariant-loop-i
invariant-loop-i l = AddingUp l.s l.orders l.words l.from l.i

abbrev pub decreases-loop-i : goal.decreases-loop-i
decreases-loop-i l = l.gens - l.i
