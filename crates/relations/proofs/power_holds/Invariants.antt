-- `power_holds` tests the columns one by one.
use Prim.Native.Nat.{◌-◌}
use Rattle.numbers.proofs.Passed.{Passed}
use Rattle.relations.specs.Said.{PowerOf}
use Rattle.relations.specs.Tests.{power_at_in}
use Rattle.relations.proofs.power_holds.Given as goal

abbrev pub invariant-loop-c : goal.invariant-loop-c
invariant-loop-c l = Passed (PowerOf l.j l.p l.u) (λ P c. power_at_in l.s l.words l.d l.j c P) l.c

abbrev pub decreases-loop-c : goal.decreases-loop-c
decreases-loop-c l = l.deg - l.c
