-- `has_row` meets its contract: line after line.
use Prim.Native.Nat.{ℕ, ◌+◌}
use lib.Dec.{eqb}
use Rattle.level.specs.Stored.{entry_in}
use Rattle.check_lines.proofs.Lines.{Missed}
use Rattle.check_lines.proofs.has_row.Given as goal

abbrev pub invariant-loop-c : goal.invariant-loop-c
invariant-loop-c l = Missed (λ (k : ℕ). eqb (entry_in l.words (l.at + k)).row l.r) l.c
