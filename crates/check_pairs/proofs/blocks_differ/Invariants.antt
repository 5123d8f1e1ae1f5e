-- `blocks_differ` walks the blocks and counts them.
use Prim.Native.Nat.{◌-◌}
use Rattle.definitions.specs.Table.{level_at}
use Rattle.seek.specs.Among.{rep_in}
use Rattle.check_pairs.proofs.Blocks.{Walked}
use Rattle.check_pairs.proofs.blocks_differ.Given as goal

abbrev pub invariant-loop-o : goal.invariant-loop-o
invariant-loop-o l = Walked (level_at l.s.gens l.words l.i) (rep_in l.words l.d) l.o l.count

abbrev pub decreases-loop-o : goal.decreases-loop-o
decreases-loop-o l = l.deg - l.o
