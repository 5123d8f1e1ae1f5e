-- `matrix_marked` meets its contract: the rows of the lines before c are in range, marked, and differ.
use Prim.Native.Nat.{ℕ, ◌+◌}
use Rattle.numbers.proofs.Tested.{Tested}
use Rattle.level.specs.Stored.{entry_in}
use Rattle.check_lines.specs.Lines.{entry_ok}
use Rattle.check_lines.proofs.Rows.{SeenRows}
use Rattle.check_lines.proofs.matrix_marked.Given as goal

abbrev pub invariant-loop-c : goal.invariant-loop-c
invariant-loop-c l = SeenRows l.words l.at l.seen l.c × Tested (λ (k : ℕ). entry_ok l.m l.d (entry_in l.words (l.at + k))) l.c
