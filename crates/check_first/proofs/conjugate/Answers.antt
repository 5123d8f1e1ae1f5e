-- `conjugate` looks the word up.
use mathlib.Core.Path.{◌∙◌, ap}
use mathlib.Core.List.{[]}
use native.Mathlib.Omega.{arith}
use lib.ListN.{get_or}
use Rattle.definitions.specs.Presentation.{pair_number}
use Rattle.check_first.proofs.conjugate.Goals as goal

pub returns : goal.returns
returns c = let at = c.pair-at.ensures.0 ∙ ap (λ j. pair_number j 0) c.up.ensures in
    let word = ap (λ k. get_or (get_or c.args.rows.now k []) 0 0) at in
    (omega (arith, c.if-up-ge-ORDER.false, c.up-2.ensures), omega (arith, word))
