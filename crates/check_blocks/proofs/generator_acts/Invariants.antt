-- `generator_acts` tests the columns one by one.
use Prim.Native.Nat.{◌-◌}
use Rattle.numbers.proofs.Tested.{Tested}
use Rattle.check_blocks.specs.Blocks.{column_acts}
use Rattle.check_blocks.proofs.generator_acts.Given as goal

abbrev pub invariant-loop-c : goal.invariant-loop-c
invariant-loop-c l = Tested (column_acts l.words l.d l.o l.f l.k) l.c

abbrev pub decreases-loop-c : goal.decreases-loop-c
decreases-loop-c l = l.deg - l.c
