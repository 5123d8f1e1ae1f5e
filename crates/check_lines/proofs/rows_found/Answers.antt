-- `rows_found` meets its contract: row after row.
use mathlib.Core.Path.{sym, ◌∙◌}
use native.Mathlib.Omega.{arith}
use Rattle.numbers.proofs.Tested.{tested-all, tested-fails}
use Rattle.check_lines.proofs.rows_found.Goals as goal

pub returns-then-not-has_row : goal.returns-then-not-has_row
returns-then-not-has_row c = let has-row = c.has_row in
    tested-fails c.loop-r.invariant (omega arith) (sym has-row.ensures ∙ c.if-not-has_row.true)

pub returns : goal.returns
returns c = tested-all c.loop-r.invariant (omega arith)
