-- No divisor below d has been found.
use Prim.Native.Nat.{◌≤◌}
use Rattle.conditions.proofs.Primes.{Tried}
use Rattle.conditions.proofs.prime.is_prime.Given as goal

abbrev pub invariant-loop-d : goal.invariant-loop-d
invariant-loop-d l = (2 ≤ l.d) × (2 ≤ l.p) × (l.d ≤ 31623) × Tried l.p l.d
