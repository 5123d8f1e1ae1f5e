-- `remaining` meets its contract: where c is x again, n turns lead nowhere.
use mathlib.Core.Path.{sym, ◌∙◌}
use Rattle.collector.proofs.Steps.{remaining-period}
use borrow.Author.Rules.{rules}
use Rattle.collector.proofs.remaining.Goals as goal

pub returns-then-same : goal.returns-then-same
returns-then-same c = remaining-period c.args.k c.args.x c.args.c c.args.n c.args.left (search rules) (sym c.same.ensures ∙ c.if-same.true)
