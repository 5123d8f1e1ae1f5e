-- `consistent` meets its contract: the test passed for every generator so far.
use borrow.Author.Rules.{rules}
use mathlib.Core.Path.{◌≡◌, refl, subst}
use mathlib.Core.Bool.{true}
use native.Mathlib.Omega.{arith}
use Rattle.definitions.specs.Lists.{all_below}
use Rattle.definitions.specs.Consistency.{level_test}
use Rattle.consistency.specs.Answers.{TestAnswer}
use Rattle.consistency.proofs.Answers.{answer-none, answer-more, answer-fails, settled-of}
use Rattle.consistency.proofs.Relations.{decides}
use Rattle.consistency.proofs.consistent.Goals as goal

pub loop-i-init : goal.loop-i-init
loop-i-init c = (refl, answer-none)

pub returns-then-not-level_passes : goal.returns-then-not-level_passes
returns-then-not-level_passes c = let made = c.new-collector.ensures in
    let passed = settled-of made.1 made.2 c.level_passes.ensures.settles in
    decides (answer-fails (search rules) c.loop-i.invariant.1 passed c.if-not-level_passes.true)

pub loop-i-preserved : goal.loop-i-preserved
loop-i-preserved c = let made = c.new-collector.ensures in
    let passed = settled-of made.1 made.2 c.level_passes.ensures.settles in
    (c.level_passes.ensures.long, answer-more (search rules) c.loop-i.invariant.1 passed c.if-not-level_passes.false)

pub returns : goal.returns
returns c = let l = c.loop-i in
    let e : l.i ≡ c.args.n = omega arith in
    decides (subst (λ i. TestAnswer c.args.n c.args.primes.now c.args.rows.now (λ P. all_below i (level_test P)) true) e l.invariant.1)
