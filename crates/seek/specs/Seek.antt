-- What is known of a whole table, and of a representation that is found in it.
--
--   Whole s T            the lines of T are those of a complete table with so many generators
--   Found n T i r D      D is representation r of level i
--   HasLines T i D       the lines of D for the generators up to i stand in the words
use Rattle.std.specs.Prelude.{◌≡◌, true, List, ℕ, ◌+◌, ◌*◌, ◌≤◌, ◌<◌, length}
use Rattle.definitions.specs.Presentation.{max_generators}
use Rattle.definitions.specs.Monomial.{rep_of}
use Rattle.definitions.specs.Table.{DEG, word_at, line_count, rep_at, level_at, complete, first_line}
use Rattle.level.specs.declared.Listed.{Listed}
use Rattle.seek.specs.declared.Scope.{Scope}

pub record Whole (s : Scope) (T : List ℕ) : Type 0 where
  pub lines_are : s.lines ≡ line_count T
  pub some : 0 < s.gens
  pub few : s.gens ≤ max_generators
  pub all : complete s.gens T ≡ true

pub record Found (n : ℕ) (T : List ℕ) (i r : ℕ) (D : Listed) : Type 0 where
  pub level : (0 < i) × (i ≤ n)
  pub listed : r < length (level_at n T i)
  pub line : D.line ≡ first_line n T i r
  pub said : word_at T D.line DEG ≡ D.deg
  pub deg : D.deg ≡ (rep_of (level_at n T i) r).deg
  pub rep : rep_of (level_at n T i) r ≡ rep_at T D.line D.deg
  pub positive : 0 < D.deg
  pub inside : D.line + n * D.deg ≤ line_count T

pub record HasLines (T : List ℕ) (i : ℕ) (D : Listed) : Type 0 where
  pub positive : 0 < D.deg
  pub first : 8 * (D.line + D.deg) ≤ length T
  pub top : 8 * (D.line + i * D.deg + D.deg) ≤ length T
