-- `cycle_times`: after i turns t is what i turns make of s.
use mathlib.Core.Path.{sym, ap, ◌∙◌}
use Rattle.numbers.proofs.Lists.{iter-zero}
use Rattle.level.proofs.Columns.{iter-next}
use Rattle.orbits.specs.Sides.{moved_of, cycle_in}
use Rattle.orbits.proofs.cycle_times.Goals as goal

pub loop-init : goal.loop-init
loop-init c = let step = cycle_in c.args.f c.args.low.now c.args.c c.args.r in
    record { is = sym (iter-zero step (moved_of c.args.s)); lies = c.requires.2 }

pub loop-preserved : goal.loop-preserved
loop-preserved c = let l = c.loop in
    let step = cycle_in c.args.f c.args.low.now c.args.c c.args.r in
    let H = c.cycle-t.ensures in
    record { is = H.is ∙ ap step l.invariant.is ∙ sym (iter-next step _ (moved_of c.args.s)); lies = H.lies }
