-- `all_intertwiners` tests the generators above the level one by one.
use Prim.Native.Nat.{◌-◌, ◌≤◌}
use Rattle.numbers.proofs.Passed.{Passed}
use Rattle.relations.specs.Said.{Spells}
use Rattle.relations.specs.Tests.{targeted_in}
use Rattle.relations.proofs.all_intertwiners.Given as goal

abbrev pub invariant-loop-j : goal.invariant-loop-j
invariant-loop-j l = (l.i ≤ l.j) × Passed (Spells l.s l.rows) (λ P j. targeted_in l.s l.words l.d l.i j P) l.j

abbrev pub decreases-loop-j : goal.decreases-loop-j
decreases-loop-j l = l.gens - l.j
