-- `accepted` meets its contract: the reader's answer, then that of the consistency test.
use Rattle.results.proofs.Numbers.{answer-ok}
use Rattle.acceptance.proofs.Answered.{ready, accepted-consistent, accepted-inconsistent}
use Rattle.acceptance.proofs.accepted.Goals as goal

pub consistent-requires : goal.consistent-requires
consistent-requires c = ready c.read.ensures (answer-ok c.in_ok-read.was)

pub returns-then-not-consistent : goal.returns-then-not-consistent
returns-then-not-consistent c = accepted-inconsistent c.read.ensures (answer-ok c.in_ok-read.was) c.consistent.ensures c.if-not-consistent.true

pub returns : goal.returns
returns c = accepted-consistent c.read.ensures (answer-ok c.in_ok-read.was) c.consistent.ensures c.if-not-consistent.false
