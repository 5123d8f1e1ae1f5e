-- `singles_led` goes through the generators above the top.
use Prim.Native.Nat.{◌-◌}
use Rattle.compare.specs.Blocks.{block}
use Rattle.compare.proofs.Blocks.{Raising}
use Rattle.check_single.proofs.singles_led.Given as goal

abbrev pub invariant-loop-j : goal.invariant-loop-j
invariant-loop-j l = Raising l.s l.words l.g l.d (block 0 0 l.f) l.j

abbrev pub decreases-loop-j : goal.decreases-loop-j
decreases-loop-j l = l.gens - l.j
