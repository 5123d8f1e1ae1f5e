-- `blocks_ok` meets its contract: what is left to cut says what all cuts say.
use mathlib.Core.Path.{sym}
use native.Mathlib.Omega.{arith}
use Rattle.heads.proofs.Cutting.{cutting-none, cutting-all}
use Rattle.check_form.proofs.Blocks.{width-none, width-more, width-inside}
use Rattle.check_form.proofs.blocks_ok.Goals as goal

pub loop-o-init : goal.loop-o-init
loop-o-init c = cutting-none _ _ _

pub returns-in_default : goal.returns-in_default
returns-in_default c = width-none _ _ _ c.loop-o-test.true c.loop-o.invariant c.in_default.ensures

pub overflow_add-o : goal.overflow_add-o
overflow_add-o c = omega (arith, width-inside _ _ _ c.loop-o-test.true _ c.in-Some.ensures, c.ranges, c.well_formed)

pub loop-o-preserved : goal.loop-o-preserved
loop-o-preserved c = width-more _ _ _ c.loop-o-test.true _ c.in-Some.ensures c.loop-o.invariant

pub returns : goal.returns
returns c = sym (cutting-all _ _ _ _ c.loop-o.invariant (omega (arith, c.loop-o-test.false)))
