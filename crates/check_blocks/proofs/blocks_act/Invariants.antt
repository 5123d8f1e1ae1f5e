-- `blocks_act` goes from block to block.
use Prim.Native.Nat.{◌-◌}
use Rattle.check_blocks.proofs.Blocks.{CutTo}
use Rattle.check_blocks.proofs.blocks_act.Given as goal

abbrev pub invariant-loop-o : goal.invariant-loop-o
invariant-loop-o l = CutTo l.s l.words l.i l.d l.o

abbrev pub decreases-loop-o : goal.decreases-loop-o
decreases-loop-o l = l.d.deg - l.o
