-- `append_copy` appends a line for each column, or one line where the degree is 1.
use mathlib.Core.List.{List}
use Prim.Native.Nat.{ℕ, ◌+◌, ◌*◌}
use lib.ListN.{take}
use Rattle.level.specs.Stored.{entry_in}
use Rattle.lines.specs.declared.Head.{Head}
use Rattle.lines.specs.Lines.{head_line}
use Rattle.lines.proofs.Appending.{Going}
use Rattle.lines.proofs.append_copy.Given as goal

unfoldable pub turn : Head → ℕ → List ℕ → ℕ → List ℕ
turn h src W k = head_line h k (entry_in W (src + k))

abbrev pub invariant-loop-k : goal.invariant-loop-k
invariant-loop-k l = Going l.low (turn l.h l.src (take (8 * l.low) l.initial.words)) l.initial.words l.at l.k l.words l.pos
