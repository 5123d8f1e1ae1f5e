-- `is_inner` meets its contract: the test passed at every generator so far.
use Rattle.consistency.specs.Answers.{inner_at}
use Rattle.consistency.proofs.Answers.{SettledBelow}
use Rattle.consistency.proofs.Level.is_inner.Given as goal

abbrev pub invariant-loop-k : goal.invariant-loop-k
invariant-loop-k l = SettledBelow l.self.i l.self.collector.now.primes.now l.self.collector.now.rows.now (λ P. inner_at P l.self.i) l.k
