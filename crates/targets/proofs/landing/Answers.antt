-- `landing` compares two exponents at column 0.
use mathlib.Core.Path.{refl, sym, ap, ◌∙◌}
use Prim.Native.Nat.{suc, ◌/◌}
use Rattle.survey.proofs.Level.{located-stored, located-degree}
use Rattle.targets.proofs.Targets.{target-known, word-known, landing-known}
use Rattle.targets.proofs.landing.Goals as goal

pub target-q-requires : goal.target-q-requires
target-q-requires c = let A = c.requires in
    (c.args.f.m, located-stored A.located (suc c.args.j) A.inside)

pub through-z-requires : goal.through-z-requires
through-z-requires c = let A = c.requires in
    let M = c.member-e.ensures in
    let t = target-known A c.target-q.ensures in (
      located-stored A.located (suc c.args.j) A.inside,
      located-stored M (suc c.args.f.top) A.surveyed.sound.stands.gens.0,
      located-degree M ∙ sym t.2,
      c.root-b.ensures.1,
    )

pub returns : goal.returns
returns c = let f = c.args.f in
    let word' = c.word-w.ensures in
    let root' = c.root-c.ensures.0 in let moved' = c.moved-y.ensures.0 in
    let target' = c.target-q.ensures in
    let member' = c.member-e.ensures in
    let root2' = c.root-b.ensures.0 in let through' = c.through-z.ensures.0 in
    let w = word-known c.requires word' refl refl in
    let read = landing-known c.requires w root' c.conjugated-x.ensures.0 moved' target' member' root2' through' in
    ap (λ t. t / (f.m / f.p)) c.sub_mod.ensures.0 ∙ read
