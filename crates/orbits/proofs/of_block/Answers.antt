-- `of_block` reads which representation stands at a block.
use mathlib.Core.Path.{subst}
use Rattle.survey.specs.Below.{Located}
use Rattle.orbits.proofs.Blocks.{listing-stands, block-member}
use Rattle.orbits.proofs.of_block.Goals as goal

pub listed-requires : goal.listed-requires
listed-requires c = let L = c.requires.0 in
    (listing-stands L, L.known.surveyed.orbited.lines, (block-member L _ c.requires.1).1)

pub returns : goal.returns
returns c = subst (λ q. Located c.args.f c.args.low.now q c.listed.result) (block-member c.requires.0 _ c.requires.1).0 c.listed.ensures
