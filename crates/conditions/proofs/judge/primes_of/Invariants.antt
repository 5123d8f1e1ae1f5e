-- The primes are listed one by one.
use Rattle.conditions.specs.Conditions.{Primes}
use Rattle.conditions.proofs.judge.primes_of.Given as goal

abbrev pub invariant-loop-j : goal.invariant-loop-j
invariant-loop-j l = Primes l.ps l.j l.primes
