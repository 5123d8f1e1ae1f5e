-- The heads of the lines of a table, their level, rep, deg, gen and col, as a complete table has them.
--
--   LineHead T l i r d g c      line l is that of column c of generator g in representation r of level i, whose degree is d
--   Heads n T l i r         the lines from l on are those of representation r of level i
--   first_from n T b r       the line at which representation r begins, on a level that begins at line b
--   base_of n T count k      the line at which level suc k begins, where level suc j has count j representations
--   Headed n T              every line of the table has its head
use Rattle.std.specs.Prelude.{◌≡◌, List, ℕ, zero, suc, ◌+◌, ◌*◌, ◌≤◌, ◌<◌, length}
use Rattle.definitions.specs.Presentation.{line_words}
use Rattle.definitions.specs.Table.{LEVEL, REP, DEG, GEN, COL, word_at, line_count}

pub record LineHead (T : List ℕ) (l i r d g c : ℕ) : Type 0 where
  pub level : word_at T l LEVEL ≡ i
  pub rep : word_at T l REP ≡ r
  pub deg : word_at T l DEG ≡ d
  pub gen : word_at T l GEN ≡ suc g
  pub col : word_at T l COL ≡ c

module _ (n : ℕ) (T : List ℕ) where
  -- as many as n generators of the degree of the first have, by generator and column
  pub record Heads (l i r : ℕ) : Type 0 where
    pub positive : 0 < word_at T l DEG
    pub inside : l + n * word_at T l DEG ≤ line_count T
    pub head : (g c : ℕ) → g < n → c < word_at T l DEG → LineHead T (l + g * word_at T l DEG + c) i r (word_at T l DEG) g c

  unfoldable pub first_from : ℕ → ℕ → ℕ
  first_from b zero = b
  first_from b (suc r) = first_from b r + n * word_at T (first_from b r) DEG

  unfoldable pub base_of : (ℕ → ℕ) → ℕ → ℕ
  base_of count zero = 0
  base_of count (suc k) = first_from (base_of count k) (count k)

  pub record Headed : Type 0 where
    pub count : ℕ → ℕ
    pub some : (k : ℕ) → k < n → 0 < count k
    pub heads : (k r : ℕ) → k < n → r < count k → Heads (first_from (base_of count k) r) (suc k) r
    pub ends : base_of count n ≡ line_count T
    pub whole : length T ≡ line_words * line_count T
