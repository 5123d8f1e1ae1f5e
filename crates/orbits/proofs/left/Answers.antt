-- `left` moves an entry.
use mathlib.Core.Path.{sym, ap, ◌∙◌, subst}
use Prim.Native.Nat.{suc}
use Rattle.definitions.specs.declared.Entry.{Entry}
use Rattle.definitions.specs.Monomial.{act}
use Rattle.level.specs.Stored.{Below}
use Rattle.survey.proofs.Level.{located-stored, located-matrix}
use Rattle.orbits.specs.Sides.{left_in}
use Rattle.orbits.proofs.Blocks.{block-degree}
use Rattle.orbits.proofs.left.Goals as goal

pub moved-y-requires : goal.moved-y-requires
moved-y-requires c = let D = c.of_block-e.ensures in
    let d = block-degree c.requires.0 _ D in
    let below = subst (λ d. Below c.args.f.m d c.args.s.x) (sym d) c.requires.2.entry_below in
    (located-stored D (suc c.args.j) c.requires.1, below)

pub returns : goal.returns
unfolding left_in
returns c = let E = c.moved-y.ensures in
    let M = located-matrix c.of_block-e.ensures _ in
    (ap (λ (t : Entry). t.exp) (E.0 ∙ ap (λ M. act c.args.f.m M c.args.s.x) M), E.1.exp)
