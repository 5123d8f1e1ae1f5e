-- `keeps_commutators_of` meets its contract: the test passed for every generator so far.
use mathlib.Core.Path.{◌≡◌}
use native.Mathlib.Omega.{arith}
use borrow.Author.Rules.{rules}
use Rattle.consistency.proofs.Answers.{settled-none, settled-more, settled-all, settled-fails}
use Rattle.consistency.proofs.Level.keeps_commutators_of.Goals as goal

pub loop-k-init : goal.loop-k-init
loop-k-init c = settled-none

pub returns-then-not-keeps_pair : goal.returns-then-not-keeps_pair
returns-then-not-keeps_pair c = settled-fails c.loop-k.invariant (search rules) c.keeps_pair.ensures c.if-not-keeps_pair.true

pub loop-k-preserved : goal.loop-k-preserved
loop-k-preserved c = settled-more c.loop-k.invariant c.keeps_pair.ensures c.if-not-keeps_pair.false

pub returns : goal.returns
returns c = let e : c.loop-k.k ≡ c.args.j = omega arith in settled-all c.loop-k.invariant e
