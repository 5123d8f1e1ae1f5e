-- `top_relations` tests the power relation, then the commutator relations one by one.
use Prim.Native.Nat.{◌-◌}
use Rattle.numbers.proofs.Passed.{Passed}
use Rattle.relations.specs.Said.{ReadsIn}
use Rattle.relations.specs.Tests.{commutator_in}
use Rattle.relations.proofs.top_relations.Given as goal

abbrev pub invariant-loop-k : goal.invariant-loop-k
invariant-loop-k l = Passed (ReadsIn l.s l.primes l.rows) (λ P k. commutator_in l.s l.words l.d k l.j P) l.k

abbrev pub decreases-loop-k : goal.decreases-loop-k
decreases-loop-k l = l.j - l.k
