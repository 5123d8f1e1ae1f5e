-- `commutator_holds` tests the columns one by one.
use Prim.Native.Nat.{◌-◌}
use Rattle.numbers.proofs.Passed.{Passed}
use Rattle.relations.specs.Said.{WordOf}
use Rattle.relations.specs.Tests.{commutator_at_in}
use Rattle.relations.proofs.commutator_holds.Given as goal

abbrev pub invariant-loop-c : goal.invariant-loop-c
invariant-loop-c l = Passed (WordOf l.k l.j l.w) (λ P c. commutator_at_in l.s l.words l.d l.k l.j c P) l.c

abbrev pub decreases-loop-c : goal.decreases-loop-c
decreases-loop-c l = l.deg - l.c
