-- `all_relations` tests the generators one by one.
use Prim.Native.Nat.{◌-◌}
use Rattle.numbers.proofs.Passed.{Passed}
use Rattle.relations.specs.Said.{ReadsIn}
use Rattle.relations.specs.Tests.{top_in}
use Rattle.relations.proofs.all_relations.Given as goal

abbrev pub invariant-loop-j : goal.invariant-loop-j
invariant-loop-j l = Passed (ReadsIn l.s l.primes l.rows) (λ P j. top_in l.s l.words l.d j P) l.j

abbrev pub decreases-loop-j : goal.decreases-loop-j
decreases-loop-j l = l.i - l.j
