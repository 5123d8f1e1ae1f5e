-- `lines_same` compares line by line.
use Prim.Native.Nat.{◌-◌}
use Rattle.compare.specs.Shifted.{LinesSame}
use Rattle.compare.proofs.lines_same.Given as goal

abbrev pub invariant-loop-k : goal.invariant-loop-k
invariant-loop-k l = LinesSame l.words l.at l.src l.k l.x
