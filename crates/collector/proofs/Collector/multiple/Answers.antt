-- `multiple` meets its contract: zeros, and the remainder at generator k.
use mathlib.Core.Path.{subst}
use lib.ListN.{set, replicate}
use Rattle.definitions.specs.Presentation.{max_generators}
use Rattle.rows.specs.Rows.{Single}
use Rattle.rows.proofs.Forms.{single-row}
use borrow.Author.Rules.{rules}
use Rattle.collector.proofs.Collector.multiple.Goals as goal

pub returns : goal.returns
returns c = let k = c.args.k in
    let r = c.remainder.result in
    subst (λ a. Single k a (set (replicate max_generators 0) k r)) c.remainder.ensures (single-row k r (search rules))
