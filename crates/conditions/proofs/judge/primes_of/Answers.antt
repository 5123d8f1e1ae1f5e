-- The primes are listed one by one.
use native.Mathlib.Omega.{arith}
use Rattle.conditions.proofs.Conditions.{primes-none, primes-more, primes-all}
use Rattle.conditions.proofs.judge.primes_of.Goals as goal

pub loop-j-init : goal.loop-j-init
loop-j-init c = primes-none

pub loop-j-preserved : goal.loop-j-preserved
loop-j-preserved c = primes-more c.pair.result c.loop-j.invariant (omega arith) c.pair.ensures.0

pub returns : goal.returns
returns c = primes-all c.loop-j.invariant (omega arith)
