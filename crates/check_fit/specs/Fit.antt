-- Levels that fit, each on the level below, from the first on.
--
--   LevelsFit s T rows primes orders k     the first k levels fit, and the squares of their degrees add up to their orders
--   FitUpTo                    the same of at least one level, and of no more than there are
--   Started                    level 1 fits, and where its representations begin
--   CharacterLines n k F       the first k of F are the multiples of n
--   LevelOne                   level 1 fits, and its first lines stand at the start of a list
--   FittingLevels s rows primes orders T k    the first k levels of T pass the judgement, for every accepted presentation that has
--                              these, and where there are any the heads of all lines are in order
use Rattle.std.specs.Prelude.{◌≡◌, true, List, ℕ, suc, ◌*◌, ◌≤◌, ◌<◌, length, get_or}
use Rattle.definitions.specs.Presentation.{max_modulus}
use Rattle.definitions.specs.Table.{first_line, level_at}
use Rattle.rows.specs.Rows.{Reads}
use Rattle.heads.specs.Walk.{heads_ok}
use Rattle.clifford.specs.Passing.{LevelPasses}
use Rattle.clifford.specs.Accepted.{Accepted}
use Rattle.seek.specs.declared.Scope.{Scope}
use Rattle.seek.specs.Seek.{Whole}
use Rattle.seek.specs.Formed.{Ordered}
use Rattle.check_heads.specs.Places.{orders_in}
use Rattle.check_blocks.specs.Squares.{squares_in}
use Rattle.compare.specs.Staged.{max_lines, Lined}
use Rattle.check_level.specs.Level.{LevelFits}

pub record LevelsFit (s : Scope) (T : List ℕ) (rows : List (List ℕ)) (primes orders : List ℕ) (k : ℕ) : Type 0 where
  pub each : (i : ℕ) → i < k → LevelFits s T rows i (get_or primes i 0)
  pub squares : (i : ℕ) → i < k → squares_in s.gens T (suc i) ≡ get_or orders (suc i) 0

pub record FitUpTo (s : Scope) (T : List ℕ) (rows : List (List ℕ)) (primes orders : List ℕ) (k : ℕ) : Type 0 where
  pub some : 0 < k
  pub within : k ≤ s.gens
  pub fits : LevelsFit s T rows primes orders k

-- level 1 fits, as many representations as the prime says, each with a line for each generator
pub record Started (s : Scope) (T : List ℕ) (rows : List (List ℕ)) (primes orders : List ℕ) : Type 0 where
  pub whole : Whole s T
  pub short : s.lines ≤ max_lines
  pub modulus : (0 < s.m) × (s.m ≤ max_modulus)
  pub counts : get_or primes 0 0 ≡ length (level_at s.gens T 1)
  pub room : get_or primes 0 0 * s.gens ≤ s.lines
  pub line : (r : ℕ) → r < get_or primes 0 0 → r * s.gens ≡ first_line s.gens T 1 r
  pub fits : LevelsFit s T rows primes orders 1

pub record CharacterLines (n k : ℕ) (F : List ℕ) : Type 0 where
  pub line : (r : ℕ) → r < k → get_or F r 0 ≡ r * n

pub record LevelOne (s : Scope) (T : List ℕ) (rows : List (List ℕ)) (primes orders firsts : List ℕ) : Type 0 where
  pub whole : Whole s T
  pub short : s.lines ≤ max_lines
  pub modulus : (0 < s.m) × (s.m ≤ max_modulus)
  pub listed : Lined s.gens T 1 firsts 0 (get_or primes 0 0)
  pub fits : LevelsFit s T rows primes orders 1

pub record FittingLevels (s : Scope) (rows : List (List ℕ)) (primes orders T : List ℕ) (k : ℕ) : Type 0 where
  pub within : k ≤ s.gens
  pub heads : 0 < k → heads_ok s.gens T (orders_in orders) ≡ true
  pub pass : (A : Accepted) → Reads A.C.P s.gens primes rows → Ordered A.C.P s orders → (i : ℕ) → i < k → LevelPasses A.C.P s.m T i
