-- `append_block` appends a line for each column, or one line where the degree is 1.
use mathlib.Core.List.{List}
use Prim.Native.Nat.{ℕ, ◌+◌, ◌*◌}
use lib.ListN.{take}
use Rattle.lines.specs.declared.Head.{Head}
use Rattle.lines.specs.declared.Piece.{Piece}
use Rattle.lines.specs.Lines.{head_line, block_entry}
use Rattle.lines.proofs.Appending.{Going}
use Rattle.lines.proofs.append_block.Given as goal

unfoldable pub turn : ℕ → Head → Piece → List ℕ → ℕ → List ℕ
turn m h b W k = head_line h (b.col + k) (block_entry m b W k)

abbrev pub invariant-loop-k : goal.invariant-loop-k
invariant-loop-k l = Going l.low (turn l.m l.h l.b (take (8 * l.low) l.initial.words)) l.initial.words l.at l.k l.words l.pos
