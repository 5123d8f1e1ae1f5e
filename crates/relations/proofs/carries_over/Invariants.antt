-- `carries_over` tests the columns one by one.
use Prim.Native.Nat.{◌-◌}
use Rattle.numbers.proofs.Passed.{Passed}
use Rattle.relations.specs.Said.{WordOf}
use Rattle.relations.specs.Tests.{carries_at_in}
use Rattle.relations.proofs.carries_over.Given as goal

abbrev pub invariant-loop-c : goal.invariant-loop-c
invariant-loop-c l = Passed (WordOf l.k l.j l.w) (λ P c. carries_at_in l.s l.words l.d l.e l.k l.j c P) l.c

abbrev pub decreases-loop-c : goal.decreases-loop-c
decreases-loop-c l = l.deg - l.c
