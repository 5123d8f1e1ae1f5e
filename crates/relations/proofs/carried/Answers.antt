-- `carried` looks the word up.
use mathlib.Core.Path.{ap}
use mathlib.Core.List.{[]}
use lib.ListN.{get_or}
use Rattle.relations.proofs.Relations.{word-looked}
use Rattle.relations.proofs.carried.Goals as goal

pub returns : goal.returns
returns c = λ P W.
    let rows = c.args.rows.now in
    let word = ap (λ t. get_or rows t []) c.pair-at.ensures.0 in
    c.carries_over.ensures P (word-looked rows c.up.ensures c.up-2.ensures word W)
