-- `keeps_commutators` meets its contract: the test passed for every generator so far.
use mathlib.Core.Path.{◌≡◌}
use native.Mathlib.Omega.{arith}
use borrow.Author.Rules.{rules}
use Rattle.consistency.proofs.Answers.{settled-none, settled-more, settled-all, settled-fails, commutators-all}
use Rattle.consistency.proofs.Level.keeps_commutators.Goals as goal

pub loop-j-init : goal.loop-j-init
loop-j-init c = settled-none

pub returns-then-not-keeps_commutators_of : goal.returns-then-not-keeps_commutators_of
returns-then-not-keeps_commutators_of c = commutators-all (settled-fails c.loop-j.invariant (search rules) c.keeps_commutators_of.ensures c.if-not-keeps_commutators_of.true)

pub loop-j-preserved : goal.loop-j-preserved
loop-j-preserved c = settled-more c.loop-j.invariant c.keeps_commutators_of.ensures c.if-not-keeps_commutators_of.false

pub returns : goal.returns
returns c = let e : c.loop-j.j ≡ c.args.self.now.i = omega arith in commutators-all (settled-all c.loop-j.invariant e)
