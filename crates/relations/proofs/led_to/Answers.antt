-- `led_to` finds the representation that a line refers to.
use mathlib.Core.Path.{◌∙◌, subst}
use Rattle.seek.specs.Seek.{Found}
use Rattle.relations.proofs.Kept.{kept-stored}
use Rattle.relations.proofs.Intertwiners.{among-kept, among-target}
use Rattle.relations.proofs.led_to.Goals as goal

pub target-requires : goal.target-requires
target-requires c = (c.args.s.m, kept-stored (among-kept c.requires.0) _ c.requires.2)

pub found_near-requires : goal.found_near-requires
found_near-requires c = let (A, l, h) = c.requires in
    let (p, q) = A.found.level in
    (A.formed.whole, p, q, among-target A c.args.j (c.up.ensures ∙ c.target.ensures) l h)

pub returns : goal.returns
returns c = let a = c.args in
    let is = c.up.ensures ∙ c.target.ensures in
    subst (λ r. Found a.s.gens a.words.now a.i r c.found_near.result) is c.found_near.ensures
