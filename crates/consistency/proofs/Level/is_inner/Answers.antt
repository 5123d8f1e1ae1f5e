-- `is_inner` meets its contract: the test passed for every generator so far.
use mathlib.Core.Path.{◌≡◌}
use native.Mathlib.Omega.{arith}
use borrow.Author.Rules.{rules}
use Rattle.consistency.proofs.Answers.{settled-none, settled-more, settled-all, settled-fails, inner-all}
use Rattle.consistency.proofs.Level.is_inner.Goals as goal

pub loop-k-init : goal.loop-k-init
loop-k-init c = settled-none

pub returns-then-not-is_inner_on : goal.returns-then-not-is_inner_on
returns-then-not-is_inner_on c = inner-all (settled-fails c.loop-k.invariant (search rules) c.is_inner_on.ensures c.if-not-is_inner_on.true)

pub loop-k-preserved : goal.loop-k-preserved
loop-k-preserved c = settled-more c.loop-k.invariant c.is_inner_on.ensures c.if-not-is_inner_on.false

pub returns : goal.returns
returns c = let e : c.loop-k.k ≡ c.args.self.now.i = omega arith in inner-all (settled-all c.loop-k.invariant e)
