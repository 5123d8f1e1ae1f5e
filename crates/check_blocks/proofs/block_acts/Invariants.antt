-- `block_acts` tests the generators one by one.
use Prim.Native.Nat.{◌-◌}
use Rattle.definitions.specs.Lists.{all_below}
use Rattle.numbers.proofs.Tested.{Tested}
use Rattle.check_blocks.specs.Blocks.{column_acts}
use Rattle.check_blocks.proofs.block_acts.Given as goal

abbrev pub invariant-loop-k : goal.invariant-loop-k
invariant-loop-k l = Tested (λ k. all_below l.f.deg (column_acts l.words l.d l.o l.f k)) l.k

abbrev pub decreases-loop-k : goal.decreases-loop-k
decreases-loop-k l = l.i - l.k
