-- The two cases.
use mathlib.Core.Path.{sym}
use Rattle.table_text.proofs.Pieces.{separator-last, separator-inner}
use Rattle.table_text.proofs.separator.Goals as goal

pub returns-then-k-eq7 : goal.returns-then-k-eq7
returns-then-k-eq7 c = sym (separator-last c.args.k c.if-k-eq7.true)

pub returns-else-k-eq7 : goal.returns-else-k-eq7
returns-else-k-eq7 c = sym (separator-inner c.args.k c.if-k-eq7.false)
