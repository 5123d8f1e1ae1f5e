-- `refs_are` meets its contract: line after line.
use Prim.Native.Nat.{ℕ, ◌+◌}
use lib.Dec.{eqb}
use Rattle.definitions.specs.Table.{REF, word_at}
use Rattle.numbers.proofs.Tested.{Tested}
use Rattle.check_lines.proofs.refs_are.Given as goal

abbrev pub invariant-loop-c : goal.invariant-loop-c
invariant-loop-c l = Tested (λ (j : ℕ). eqb (word_at l.words (l.at + j) REF) l.x) l.c
