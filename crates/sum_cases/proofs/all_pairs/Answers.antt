-- `all_pairs`: pair k is of k / m and k % m, which are below m.
use native.Mathlib.Nat.{mod-lt, mul-le-mul, div-lt_iff_lt-mul}
use native.Mathlib.Omega.{arith}
use Rattle.sum_cases.proofs.all_pairs.Goals as goal

pub overflow_mul-pairs : goal.overflow_mul-pairs
overflow_mul-pairs c = let s = c.requires.1 in omega (arith, mul-le-mul s s)

pub loop-k-init : goal.loop-k-init
loop-k-init c = let s = c.requires.1 in (omega arith, mul-le-mul s s, c.requires.2)

pub both-requires : goal.both-requires
both-requires c = ((div-lt_iff_lt-mul c.requires.0).1 c.loop-k-test.true, mod-lt c.loop-k.k c.requires.0, c.requires.1)
