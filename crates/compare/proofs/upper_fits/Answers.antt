-- `upper_fits` goes through the generators above the top.
use native.Mathlib.Omega.{arith}
use Rattle.compare.proofs.Shifted.{never}
use Rattle.compare.proofs.Blocks.{raising-none, raising-more, raising-all}
use Rattle.compare.proofs.upper_fits.Goals as goal

pub overflow_step-j : goal.overflow_step-j
overflow_step-j c = omega (arith, c.requires.0.level.1, c.requires.0.whole.few)

pub loop-j-init : goal.loop-j-init
loop-j-init c = raising-none c.args.s c.args.words.now c.args.g c.args.d c.args.b

pub led_to-requires : goal.led_to-requires
led_to-requires c = (c.requires.0, c.requires.1, omega arith)

pub returns-then-not-led_to : goal.returns-then-not-led_to
returns-then-not-led_to c = never

pub loop-j-preserved : goal.loop-j-preserved
loop-j-preserved c = raising-more c.loop-j.invariant (c.led_to.ensures (c.if-not-led_to.false))

pub returns : goal.returns
returns c = λ e.
    raising-all c.loop-j.invariant (omega arith)
