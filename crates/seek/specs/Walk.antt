-- Where a walk over the representations of a level stands.
--
--   Walks s T i many r line      level i has so many, representation r is next, and begins at that line
use Rattle.std.specs.Prelude.{◌≡◌, List, ℕ, ◌≤◌, ◌<◌, length}
use Rattle.definitions.specs.Table.{level_at, first_line}
use Rattle.seek.specs.declared.Scope.{Scope}
use Rattle.seek.specs.Seek.{Whole}

pub record Walks (s : Scope) (T : List ℕ) (i many r line : ℕ) : Type 0 where
  pub whole : Whole s T
  pub level : (0 < i) × (i ≤ s.gens)
  pub counts : many ≡ length (level_at s.gens T i)
  pub within : r ≤ many
  pub here : r < many → line ≡ first_line s.gens T i r
