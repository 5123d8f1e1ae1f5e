-- `keeps_commutators` meets its contract: every relation passed so far holds.
use Rattle.definitions.specs.Lists.{all_below}
use Rattle.consistency.specs.Answers.{commutator_kept}
use Rattle.consistency.proofs.Answers.{SettledBelow}
use Rattle.consistency.proofs.Level.keeps_commutators.Given as goal

abbrev pub invariant-loop-j : goal.invariant-loop-j
invariant-loop-j l = SettledBelow l.self.i l.self.collector.now.primes.now l.self.collector.now.rows.now (λ P j. all_below j (commutator_kept P l.self.i j)) l.j
