-- `lower_fits` compares line by line where the degree is 1, else generator by generator.
use Prim.Native.Nat.{◌-◌}
use Rattle.compare.proofs.Blocks.{Lowering}
use Rattle.compare.proofs.lower_fits.Given as goal

abbrev pub invariant-loop-g : goal.invariant-loop-g
invariant-loop-g l = Lowering l.s l.words l.d l.b l.g

abbrev pub decreases-loop-g : goal.decreases-loop-g
decreases-loop-g l = l.top - l.g
