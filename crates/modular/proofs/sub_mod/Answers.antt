-- `sub_mod`: a difference, and m more.
use mathlib.Core.Path.{◌∙◌}
use Rattle.modular.proofs.Reduction.{less-is}
use Rattle.modular.proofs.sub_mod.Goals as goal

pub returns : goal.returns
returns c = (c.reduce.ensures.0 ∙ less-is c.args.m c.args.a c.args.b c.requires.1, c.reduce.ensures.1)
