-- `conjugate` walks the word within a block, and turns by the generator on top.
use mathlib.Core.Path.{ap₂, ◌∙◌, subst}
use native.Mathlib.Omega.{arith}
use native.Mathlib.Numerals.{add-one}
use Rattle.definitions.specs.Lists.{iter}
use Rattle.definitions.specs.Presentation.{to_nf}
use Rattle.definitions.specs.Monomial.{entry}
use Rattle.formulas.specs.Formulas.{walk}
use Rattle.level.specs.Stored.{Below, generator_in}
use Rattle.survey.proofs.Level.{located-stored, located-column}
use Rattle.orbits.specs.Sides.{EntryIs, cycle_in, conjugate_in}
use Rattle.orbits.proofs.Blocks.{listing-stands, block-degree}
use Rattle.orbits.proofs.conjugate.Goals as goal

pub walked-x-requires : goal.walked-x-requires
walked-x-requires c = let D = c.of_block-e.ensures in
    let gens = (listing-stands c.requires.0).gens in
    (omega (arith, gens), located-stored D c.args.f.top (omega (arith, gens)), located-column D)

pub cycle_times-requires : goal.cycle_times-requires
cycle_times-requires c = let d = block-degree c.requires.0 _ c.of_block-e.ensures in
    let below = subst (λ d. Below c.args.f.m d c.walked-x.result) d c.walked-x.ensures.1 in
    (c.requires.0, c.requires.2, record { block_below = c.requires.1; entry_below = below })

pub returns : goal.returns
unfolding conjugate_in
returns c = let f = c.args.f in
    let W = c.args.low.now in let v = c.args.w.now in let D = c.of_block-e.ensures in
    let step = cycle_in f W c.args.c c.args.r in
    let x = c.walked-x.ensures.0 ∙ (λ i. walk f.m (generator_in W (D.is i)) f.top (to_nf f.top v) (entry 0 0)) in
    let e = ap₂ (λ n y. iter step n (record { block = c.args.b; at = y })) (add-one _) x in
    subst (λ y. EntryIs f W c.args.r y c.cycle_times.result) e c.cycle_times.ensures
