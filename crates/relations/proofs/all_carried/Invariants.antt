-- `all_carried` tests the generators of the level one by one.
use Prim.Native.Nat.{◌-◌}
use Rattle.numbers.proofs.Passed.{Passed}
use Rattle.relations.specs.Said.{Spells}
use Rattle.relations.specs.Tests.{carries_in}
use Rattle.relations.proofs.all_carried.Given as goal

abbrev pub invariant-loop-k : goal.invariant-loop-k
invariant-loop-k l = Passed (Spells l.s l.rows) (λ P k. carries_in l.s l.words l.d l.e k l.j P) l.k

abbrev pub decreases-loop-k : goal.decreases-loop-k
decreases-loop-k l = l.i - l.k
