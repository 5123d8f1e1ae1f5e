-- `value` meets its contract: v is the value of the first m exponents.
use Rattle.consistency.specs.Images.{Value}
use Rattle.consistency.proofs.Level.value.Given as goal

abbrev pub invariant-loop-m : goal.invariant-loop-m
invariant-loop-m l = Value l.self.i l.self.collector.now.primes.now l.self.collector.now.rows.now l.m l.x l.v
