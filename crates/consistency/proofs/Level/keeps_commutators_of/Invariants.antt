-- `keeps_commutators_of` meets its contract: every relation passed so far holds.
use Rattle.consistency.specs.Answers.{commutator_kept}
use Rattle.consistency.proofs.Answers.{SettledBelow}
use Rattle.consistency.proofs.Level.keeps_commutators_of.Given as goal

abbrev pub invariant-loop-k : goal.invariant-loop-k
invariant-loop-k l = SettledBelow l.self.i l.self.collector.now.primes.now l.self.collector.now.rows.now (λ P. commutator_kept P l.self.i l.j) l.k
