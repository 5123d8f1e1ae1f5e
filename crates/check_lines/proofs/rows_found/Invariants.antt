-- `rows_found` meets its contract: row after row.
use Rattle.numbers.proofs.Tested.{Tested}
use Rattle.check_lines.specs.Lines.{has_row}
use Rattle.check_lines.proofs.rows_found.Given as goal

abbrev pub invariant-loop-r : goal.invariant-loop-r
invariant-loop-r l = Tested (has_row l.words l.at l.d) l.r
