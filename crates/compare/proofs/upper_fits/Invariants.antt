-- `upper_fits` goes through the generators above the top.
use Prim.Native.Nat.{◌-◌}
use Rattle.compare.proofs.Blocks.{Raising}
use Rattle.compare.proofs.upper_fits.Given as goal

abbrev pub invariant-loop-j : goal.invariant-loop-j
invariant-loop-j l = Raising l.s l.words l.g l.d l.b l.j

abbrev pub decreases-loop-j : goal.decreases-loop-j
decreases-loop-j l = l.gens - l.j
