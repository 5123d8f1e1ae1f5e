-- What is written as lines.
--
--   head_line h k x             the line of column k with head h
--   copy_lines h src W          the lines of the matrix at line src, as it stands, with head h
--   block_entry m b W k         column k of a piece, in the greater matrix
--   block_lines m h b W         the lines of a piece
--   Copied m W b               the matrix of a piece stands in W, and its entries fit
--   Space low at k w           k words can be written from line `at` on, behind the lines below `low`
--   Appended w at s w' next    the words s were written in lines, from line `at` up to line `next`
use Rattle.std.specs.Prelude.{ℕ, ◌+◌, ◌*◌, ◌%◌, ◌≤◌, ◌<◌, List, [], ◌∷◌, length}
use Rattle.definitions.specs.declared.Entry.{Entry}
use Rattle.definitions.specs.Lists.{blocks}
use Rattle.definitions.specs.Monomial.{entry}
use Rattle.text.specs.Writing.{Wrote}
use Rattle.level.specs.Stored.{entry_in, Holds}
use Rattle.lines.specs.declared.Head.{Head}
use Rattle.lines.specs.declared.Piece.{Piece}

unfoldable pub head_line : Head → ℕ → Entry → List ℕ
head_line h k x = h.level ∷ h.rep ∷ h.deg ∷ h.generator ∷ h.refn ∷ k ∷ x.row ∷ x.exp ∷ []

unfoldable pub copy_lines : Head → ℕ → List ℕ → List ℕ
copy_lines h src W = blocks h.deg (λ (k : ℕ). head_line h k (entry_in W (src + k)))

abbrev pub block_entry : (m : ℕ) → Piece → List ℕ → ℕ → Entry
block_entry m b W k = entry (b.row + (entry_in W (b.src + k)).row) (((entry_in W (b.src + k)).exp + b.by) % m)

unfoldable pub block_lines : (m : ℕ) → Head → Piece → List ℕ → List ℕ
block_lines m h b W = blocks b.deg (λ (k : ℕ). head_line h (b.col + k) (block_entry m b W k))

pub record Copied (m : ℕ) (W : List ℕ) (b : Piece) : Type 0 where
  pub holds : Holds m W b.src b.deg
  pub by_below : b.by < m
  pub columns : b.col + b.deg ≤ 1000000000
  pub rows : b.row + b.deg ≤ 1000000000

pub record Space (low at k : ℕ) (w : List ℕ) : Type 0 where
  pub from : low ≤ at
  pub room : 8 * at + k ≤ length w

abbrev pub Appended : List ℕ → ℕ → List ℕ → List ℕ → ℕ → Type 0
Appended w at s w' next = Wrote w (8 * at) s w' (8 * next)
