-- `has_row` meets its contract: line after line.
use mathlib.Core.Path.{sym, ◌∙◌}
use native.Mathlib.Omega.{arith}
use Rattle.check_lines.proofs.Lines.{missed-all, missed-found}
use borrow.Author.Tests.{eq-eqb}
use Rattle.check_lines.proofs.has_row.Goals as goal

pub returns-then-word_at-r : goal.returns-then-word_at-r
returns-then-word_at-r c = let e = rw c.up.ensures at c.word_at.ensures in
    missed-found c.loop-c.invariant (omega arith) (eq-eqb _ _ (sym e ∙ c.if-word_at-r.true))

pub returns : goal.returns
returns c = missed-all c.loop-c.invariant (omega arith)
