-- `rep_fits` goes from block to block.
use Prim.Native.Nat.{◌-◌}
use Rattle.compare.proofs.Blocks.{Blocking}
use Rattle.compare.proofs.rep_fits.Given as goal

abbrev pub invariant-loop-o : goal.invariant-loop-o
invariant-loop-o l = Blocking l.s l.words l.g l.d l.w l.o
