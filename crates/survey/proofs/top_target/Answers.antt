-- `top_target` reads the reference of the generator on top.
use Prim.Native.Nat.{suc}
use Rattle.survey.proofs.Level.{located-stored}
use Rattle.survey.proofs.top_target.Goals as goal

pub target-requires : goal.target-requires
target-requires c = (c.args.f.m, located-stored c.listed-d.ensures (suc c.args.f.top) c.requires.0.gens.0)
