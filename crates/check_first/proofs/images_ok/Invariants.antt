-- `images_ok` goes through the generators above generator 0.
use Prim.Native.Nat.{◌-◌}
use Rattle.check_first.proofs.Lines.{LedUpTo}
use Rattle.check_first.proofs.images_ok.Given as goal

abbrev pub invariant-loop-j : goal.invariant-loop-j
invariant-loop-j l = LedUpTo l.s l.words l.rows l.p l.k l.j

abbrev pub decreases-loop-j : goal.decreases-loop-j
decreases-loop-j l = l.gens - l.j
