-- `cycle`: within the orbit the next block, and at its end block 0 and the constant.
use mathlib.Core.Path.{sym, ap, ◌∙◌, subst}
use Prim.Native.Nat.{suc, ◌≤◌, ◌<◌}
use native.Mathlib.Omega.{arith}
use Rattle.definitions.specs.Monomial.{act}
use Rattle.level.specs.Stored.{Below}
use Rattle.survey.proofs.Level.{located-stored, located-matrix}
use Rattle.orbits.proofs.Blocks.{listing-stands, block-degree}
use Rattle.orbits.proofs.Sides.{cycle-within, cycle-last}
use Rattle.orbits.proofs.cycle.Goals as goal

pub moved-y-requires : goal.moved-y-requires
moved-y-requires c = let f = c.args.f in let D = c.of_block-e.ensures in
    let d = block-degree c.requires.0 _ D in
    let below = subst (λ d. Below f.m d c.args.s.x) (sym d) c.requires.2.entry_below in
    (located-stored D (suc f.top) (listing-stands c.requires.0).gens.0, below)

pub returns-then-b-f : goal.returns-then-b-f
returns-then-b-f c = let f = c.args.f in let s = c.args.s in
    let D = c.of_block-e.ensures in let y = c.moved-y.result in
    let E = c.moved-y.ensures in
    let e = E.0 ∙ ap (λ M. act f.m M s.x) (located-matrix D f.top) in
    let h : suc s.block < f.p = omega (arith, c.if-b-f.true) in
    let d = block-degree c.requires.0 _ D in
    record {
      is = cycle-within _ _ _ _ _ y e h E.1.exp;
      lies = record { block_below = omega (arith, h); entry_below = subst (λ d. Below f.m d y) d E.1 };
    }

pub returns : goal.returns
returns c = let f = c.args.f in
    let s = c.args.s in let D = c.of_block-e.ensures in
    let y = c.moved-y.result in let E = c.moved-y.ensures in
    let e = E.0 ∙ ap (λ M. act f.m M s.x) (located-matrix D f.top) in
    let h : f.p ≤ suc s.block = omega (arith, c.if-b-f.false) in
    let d = block-degree c.requires.0 _ D in
    record {
      is = cycle-last _ _ _ _ _ y e _ h c.add_mod.ensures.0;
      lies = record {
        block_below = omega (arith, c.requires.2.block_below);
        entry_below = record { row = subst (λ d. y.row < d) d E.1.row; exp = c.add_mod.ensures.1 };
      };
    }
