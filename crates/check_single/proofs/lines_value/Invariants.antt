-- `lines_value` compares line by line, and sums the exponents.
use Prim.Native.Nat.{◌-◌, ◌≤◌}
use Rattle.check_single.proofs.Power.{SummedLines}
use Rattle.check_single.proofs.lines_value.Given as goal

abbrev pub invariant-loop-k : goal.invariant-loop-k
invariant-loop-k l = SummedLines l.words l.at l.src l.k l.x l.u l.y × (l.k ≤ l.n)
