-- The heads of a table's lines, walked from its first line; ord bounds the square of a degree on each level.
--
--   head_is, matrix_heads, rep_heads     the tests of a line, of a generator's lines, and of a representation's
--   begins T l i r                    line l is of the level behind level i, of which r representations were met
--   next_level, next_rep                the level of line l, and the number of its representation
--   step_ok l i r                      what is tested at line l
--   walk_from f l i r                  the walk from line l on, in at most f steps
--   heads_ok                           whole lines, and the walk over all of them
use Rattle.std.specs.Prelude.{Bool, ◌&&◌, cond, List, ℕ, zero, suc, ◌+◌, ◌*◌, ◌%◌, length, eqb, leb, ltb}
use Rattle.definitions.specs.Lists.{all_below}
use Rattle.definitions.specs.Presentation.{line_words}
use Rattle.definitions.specs.Table.{LEVEL, REP, DEG, GEN, COL, word_at, line_count}

module _ (T : List ℕ) where
  unfoldable pub head_is : (l i r d g c : ℕ) → Bool
  head_is l i r d g c =
      eqb (word_at T l LEVEL) i && eqb (word_at T l REP) r && eqb (word_at T l DEG) d && eqb (word_at T l GEN) (suc g) && eqb (word_at T l COL) c

  unfoldable pub matrix_heads : (l i r d g : ℕ) → Bool
  matrix_heads l i r d g = all_below d (λ c. head_is (l + g * d + c) i r d g c)

  unfoldable pub begins : (l i r : ℕ) → Bool
  begins l i r = ltb 0 r && eqb (word_at T l LEVEL) (suc i)

  unfoldable pub next_level : (l i r : ℕ) → ℕ
  next_level l i r = cond (begins l i r) (suc i) i

  unfoldable pub next_rep : (l i r : ℕ) → ℕ
  next_rep l i r = cond (begins l i r) 0 r

module _ (n : ℕ) (T : List ℕ) (ord : ℕ → ℕ) where
  unfoldable pub rep_heads : (l i r : ℕ) → Bool
  rep_heads l i r =
      ltb 0 (word_at T l DEG) && leb (word_at T l DEG * word_at T l DEG) (ord i) && leb (l + n * word_at T l DEG) (line_count T)
      && all_below n (λ g. matrix_heads T l i r (word_at T l DEG) g)

  unfoldable pub step_ok : (l i r : ℕ) → Bool
  step_ok l i r = leb (next_level T l i r) n && rep_heads l (next_level T l i r) (next_rep T l i r)

  -- at the end of the lines level n has some representations
  unfoldable pub walk_from : ℕ → (l i r : ℕ) → Bool
  walk_from zero l i r = eqb i n && ltb 0 r
  walk_from (suc f) l i r =
      cond (ltb l (line_count T))
      (step_ok l i r && walk_from f (l + n * word_at T l DEG) (next_level T l i r) (suc (next_rep T l i r)))
      (eqb i n && ltb 0 r)

  unfoldable pub heads_ok : Bool
  heads_ok = eqb (length T % line_words) 0 && walk_from (line_count T) 0 1 0
