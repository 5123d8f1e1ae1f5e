-- `empty` meets its contract: the row is compared with zeros.
use mathlib.Core.Path.{◌∙◌}
use Rattle.rows.proofs.Forms.{empty-is}
use Rattle.rows.proofs.empty.Goals as goal

pub returns : goal.returns
returns c = c.same.ensures ∙ empty-is c.args.i c.args.x
