-- `all_pairs`: pair k is of k / m and k % m, which are below m.
use mathlib.Core.Path.{◌≡◌}
use Prim.Native.Nat.{◌-◌, ◌≤◌}
use lib.ListN.{length}
use Rattle.sum_cases.proofs.all_pairs.Given as goal

abbrev pub invariant-loop-k : goal.invariant-loop-k
invariant-loop-k l = (l.k ≤ l.pairs) × (l.pairs ≤ 4096) × (length l.out ≡ 4096)
