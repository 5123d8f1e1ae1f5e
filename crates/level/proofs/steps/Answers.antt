-- `steps`: after so many turns r is what they make of x.
use mathlib.Core.Path.{sym, ap, ◌∙◌}
use Rattle.definitions.specs.Monomial.{act}
use Rattle.numbers.proofs.Lists.{iter-zero}
use Rattle.level.specs.Stored.{matrix_in}
use Rattle.level.proofs.Columns.{iter-next}
use Rattle.level.proofs.steps.Goals as goal

pub loop-init : goal.loop-init
loop-init c = (sym (iter-zero _ _), c.requires.below)

pub loop-preserved : goal.loop-preserved
loop-preserved c = let f = act c.args.m (matrix_in c.args.words.now c.args.at c.args.d) in
    (c.apply-r.ensures.0 ∙ ap f c.loop.invariant.0 ∙ sym (iter-next f _ _), c.apply-r.ensures.1)
