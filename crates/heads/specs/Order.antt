-- The order of a table's lines, by which a representation is found.
--
--   before T i r l       line l stands before representation r of level i
--   Split T i r s        the lines before it are the first s
--   Splits T i r         there is such an s
use Rattle.std.specs.Prelude.{◌≡◌, Bool, true, false, ◌&&◌, ◌||◌, List, ℕ, ◌≤◌, ◌<◌, eqb, ltb}
use Rattle.definitions.specs.Table.{LEVEL, REP, word_at, line_count}

unfoldable pub before : List ℕ → (i r l : ℕ) → Bool
before T i r l = ltb (word_at T l LEVEL) i || (eqb (word_at T l LEVEL) i && ltb (word_at T l REP) r)

pub record Split (T : List ℕ) (i r s : ℕ) : Type 0 where
  pub inside : s ≤ line_count T
  pub low : (l : ℕ) → l < s → before T i r l ≡ true
  pub high : (l : ℕ) → s ≤ l → l < line_count T → before T i r l ≡ false

pub record Splits (T : List ℕ) (i r : ℕ) : Type 0 where
  pub at : ℕ
  pub is : Split T i r at
