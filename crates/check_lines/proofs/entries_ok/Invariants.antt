-- `entries_ok` meets its contract: line after line.
use Prim.Native.Nat.{ℕ, ◌+◌}
use Rattle.numbers.proofs.Tested.{Tested}
use Rattle.level.specs.Stored.{entry_in}
use Rattle.check_lines.specs.Lines.{entry_ok}
use Rattle.check_lines.proofs.entries_ok.Given as goal

abbrev pub invariant-loop-c : goal.invariant-loop-c
invariant-loop-c l = Tested (λ (k : ℕ). entry_ok l.m l.d (entry_in l.words (l.at + k))) l.c
