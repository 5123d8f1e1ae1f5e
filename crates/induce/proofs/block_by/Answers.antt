-- `block_by`, case by case.
use mathlib.Core.Path.{◌≡◌, sym, ◌∙◌, subst}
use Prim.Native.Nat.{◌<◌}
use native.Mathlib.Omega.{arith}
use lib.ListN.{get_or, get_or-map}
use Rattle.survey.specs.declared.Note.{Note}
use Rattle.survey.specs.Notes.{shifts}
use Rattle.survey.proofs.Notes.{blank}
use Rattle.orbits.specs.declared.Block.{Block}
use Rattle.orbits.specs.Blocks.{scalars}
use Rattle.orbits.proofs.Blocks.{blank as blank_block, listing-stands}
use Rattle.induce.proofs.Cases.{by_next, by_last, by-above}
use Rattle.induce.proofs.block_by.Goals as goal

pub returns-then-g-f : goal.returns-then-g-f
returns-then-g-f c = let a = c.args in
    let above : a.f.top < a.g = omega (arith, c.if-g-f.true) in
    let e : (get_or a.blocks.now a.b blank_block).scalar ≡ get_or (scalars a.blocks.now) a.b 0 = sym (get_or-map (λ (b : Block). b.scalar) a.blocks.now a.b blank_block) in
    let small = c.requires.0.1.scalars_below above _ c.requires.1 in
    (e ∙ by-above _ _ _ _ _ _ above, subst (λ x. x < a.f.m) (sym e) small)

pub returns-then-b-f : goal.returns-then-b-f
returns-then-b-f c = let a = c.args in
    let on-top : a.g ≡ a.f.top = omega (arith, c.if-g-f.false, c.requires.0.1.high) in
    (by_next _ _ _ _ _ _ on-top (omega (arith, c.if-b-f.true)), (listing-stands c.requires.0.1.writing.listing).modulus.0)

pub returns-else-b-f : goal.returns-else-b-f
returns-else-b-f c = let a = c.args in
    let I = c.requires.0.1.writing.listing.known in
    let on-top : a.g ≡ a.f.top = omega (arith, c.if-g-f.false, c.requires.0.1.high) in
    let last = by_last _ _ _ _ _ _ on-top in
    let e : (get_or a.notes.now a.i.leader blank).shift ≡ get_or (shifts a.notes.now) a.i.leader 0 = sym (get_or-map (λ (n : Note). n.shift) a.notes.now a.i.leader blank) in
    (e ∙ last (omega (arith, c.if-b-f.false)), subst (λ x. x < a.f.m) (sym e) (I.surveyed.shifts_are.below _ I.leads.listed))
