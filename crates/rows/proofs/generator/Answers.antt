-- `generator` meets its contract: zeros, and a one at k.
use Rattle.rows.proofs.Forms.{generator-row}
use borrow.Author.Rules.{rules}
use Rattle.rows.proofs.generator.Goals as goal

pub returns : goal.returns
returns c = generator-row c.args.k (search rules)
