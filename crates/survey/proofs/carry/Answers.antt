-- `carry` reads where the intertwiner leads and applies it.
use mathlib.Core.Path.{sym, ◌∙◌, subst}
use Prim.Native.Nat.{suc}
use Rattle.level.specs.Stored.{Below}
use Rattle.survey.proofs.Level.{located-stored, located-degree}
use Rattle.survey.proofs.carry.Goals as goal

pub target-requires : goal.target-requires
target-requires c = (c.args.f.m, located-stored c.member-e.ensures (suc c.args.f.top) c.requires.0.gens.0)

pub moved-requires : goal.moved-requires
moved-requires c = let L = c.member-e.ensures in
    let d = c.requires.2.same_degree ∙ sym (located-degree L) in
    (located-stored L (suc c.args.f.top) c.requires.0.gens.0, subst (λ d. Below c.args.f.m d c.args.s.x) d c.requires.2.entry_below)
