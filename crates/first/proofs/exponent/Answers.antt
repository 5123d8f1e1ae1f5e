-- `exponent`: a multiple of m / p for the lowest generator, and 0 for the others.
use mathlib.Core.Path.{sym}
use Rattle.numbers.proofs.Bools.{cond-eq, cond-ne}
use Rattle.first.specs.Roots.{root_exp}
use Rattle.first.proofs.exponent.Goals as goal

pub returns-then-g-eq0 : goal.returns-then-g-eq0
unfolding root_exp
returns-then-g-eq0 c = sym (cond-eq c.args.g 0 _ 0 c.if-g-eq0.true)

pub returns : goal.returns
unfolding root_exp
returns c = sym (cond-ne c.args.g 0 _ 0 c.if-g-eq0.false)
