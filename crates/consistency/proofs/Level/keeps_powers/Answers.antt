-- `keeps_powers` meets its contract: the test passed for every generator so far.
use mathlib.Core.Path.{◌≡◌}
use native.Mathlib.Omega.{arith}
use borrow.Author.Rules.{rules}
use Rattle.consistency.proofs.Answers.{settled-none, settled-more, settled-all, settled-fails, powers-all}
use Rattle.consistency.proofs.Level.keeps_powers.Goals as goal

pub loop-k-init : goal.loop-k-init
loop-k-init c = settled-none

pub returns-then-not-keeps_power : goal.returns-then-not-keeps_power
returns-then-not-keeps_power c = powers-all (settled-fails c.loop-k.invariant (search rules) c.keeps_power.ensures c.if-not-keeps_power.true)

pub loop-k-preserved : goal.loop-k-preserved
loop-k-preserved c = settled-more c.loop-k.invariant c.keeps_power.ensures c.if-not-keeps_power.false

pub returns : goal.returns
returns c = let e : c.loop-k.k ≡ c.args.self.now.i = omega arith in powers-all (settled-all c.loop-k.invariant e)
