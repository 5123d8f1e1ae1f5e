-- A level of a whole table over the level below, with the first lines of the representations of both in a list.
--
--   max_lines                       the lines that are compared at most
--   Lined n T i firsts at many     the first lines of the representations of level i stand in the list from place `at` on
--   Staged s T firsts g            the levels of g, the lower of which holds matrices
use Rattle.std.specs.Prelude.{◌≡◌, List, ℕ, suc, ◌+◌, ◌≤◌, ◌<◌, length, get_or}
use Rattle.definitions.specs.Table.{first_line, level_at}
use Rattle.level.specs.declared.Listed.{Listed}
use Rattle.level.specs.Stored.{Stored}
use Rattle.seek.specs.declared.Scope.{Scope}
use Rattle.seek.specs.Seek.{Whole, Found}
use Rattle.compare.specs.declared.Stage.{Stage}

abbrev pub max_lines : ℕ
max_lines = 16777216

pub record Lined (n : ℕ) (T : List ℕ) (i : ℕ) (firsts : List ℕ) (at many : ℕ) : Type 0 where
  pub counts : many ≡ length (level_at n T i)
  pub room : at + many ≤ length firsts
  pub line : (r : ℕ) → r < many → get_or firsts (at + r) 0 ≡ first_line n T i r

pub record Staged (s : Scope) (T firsts : List ℕ) (g : Stage) : Type 0 where
  pub whole : Whole s T
  pub short : s.lines ≤ max_lines
  pub modulus : (0 < s.m) × (s.m ≤ 2147483648)
  pub level : (0 < g.top) × (g.top < s.gens)
  pub low : Lined s.gens T g.top firsts g.low g.below
  pub high : Lined s.gens T (suc g.top) firsts g.high g.above
  pub stored : (r : ℕ) {F : Listed} → Found s.gens T g.top r F → Stored s.m s.gens T F
