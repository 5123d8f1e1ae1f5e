-- `separated` tests the levels one by one.
use Prim.Native.Nat.{◌-◌}
use Rattle.check_pairs.proofs.Levels.{PassingUpTo}
use Rattle.check_pairs.proofs.separated.Given as goal

abbrev pub invariant-loop-i : goal.invariant-loop-i
invariant-loop-i l = PassingUpTo l.s l.primes l.words l.from l.i

abbrev pub decreases-loop-i : goal.decreases-loop-i
decreases-loop-i l = l.gens - l.i
