-- `right` compares at column 0 of a block.
use mathlib.Core.Path.{sym, ap, ◌∙◌}
use Prim.Native.Nat.{suc}
use native.Mathlib.Omega.{arith}
use Rattle.level.specs.Stored.{through_in}
use Rattle.survey.specs.Below.{listed_of}
use Rattle.survey.proofs.Level.{located-stored, located-degree, located-target}
use Rattle.orbits.specs.Sides.{constant_in, right_in}
use Rattle.orbits.proofs.Blocks.{listing-stands}
use Rattle.orbits.proofs.right.Goals as goal

pub target-q-requires : goal.target-q-requires
target-q-requires c = (c.args.f.m, located-stored c.of_block-d.ensures (suc c.args.j) c.requires.2)

pub through-requires : goal.through-requires
through-requires c = let D = c.of_block-d.ensures in let M = c.member-e.ensures in
    let t = located-target D _ _ (omega (arith, c.requires.1)) c.requires.2 c.target-q.ensures in (
      located-stored D (suc c.args.j) c.requires.2,
      located-stored M (suc c.args.f.top) (listing-stands c.requires.0).gens.0,
      located-degree M ∙ sym t.2,
      c.constant-c.ensures.1,
    )

pub returns : goal.returns
unfolding right_in
returns c = let f = c.args.f in
    let W = c.args.low.now in let D = c.of_block-d.ensures in
    let q = (located-target D _ _ (omega (arith, c.requires.1)) c.requires.2 c.target-q.ensures).0 in
    let k = c.constant-c.ensures.0 ∙ ap (constant_in f c.args.notes.now) q in
    let e = c.member-e.ensures.is ∙ ap (listed_of f W) q in
    (c.through.ensures.0 ∙ (λ o. through_in f.m W (D.is o) c.args.j (e o) f.top (k o)), c.through.ensures.1)
