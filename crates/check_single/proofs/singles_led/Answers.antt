-- `singles_led` goes through the generators above the top.
use mathlib.Core.Bool.{false≢true}
use native.Mathlib.Omega.{arith}
use Rattle.compare.specs.Blocks.{block}
use Rattle.compare.proofs.Blocks.{raising-none, raising-more, raising-all}
use Rattle.check_single.proofs.singles_led.Goals as goal

pub overflow_step-j : goal.overflow_step-j
overflow_step-j c = omega (arith, c.requires.0.level.1, c.requires.0.whole.few)

pub loop-j-init : goal.loop-j-init
loop-j-init c = let a = c.args in
    raising-none a.s a.words.now a.g a.d (block 0 0 a.f)

pub single_led-requires : goal.single_led-requires
single_led-requires c = let (S, O, one) = c.requires in
    (S, O, one, omega arith)

pub returns-then-not-single_led : goal.returns-then-not-single_led
returns-then-not-single_led c = λ e. absurd (false≢true e)

pub loop-j-preserved : goal.loop-j-preserved
loop-j-preserved c = raising-more c.loop-j.invariant (c.single_led.ensures (c.if-not-single_led.false))

pub returns : goal.returns
returns c = λ e. raising-all c.loop-j.invariant (omega arith)
