-- `mark` frees one multiple after the other.
use Prim.Native.Nat.{◌*◌, ◌-◌}
use lib.ListN.{length}
use Rattle.check_first.proofs.Marks.{Marking}
use Rattle.check_first.proofs.mark.Given as goal

abbrev pub invariant-loop-e : goal.invariant-loop-e
invariant-loop-e l = Marking (length l.initial.free) l.p l.part l.e l.free

abbrev pub decreases-loop-e : goal.decreases-loop-e
decreases-loop-e l = l.p * l.part - l.e
