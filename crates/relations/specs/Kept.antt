-- Lines that hold the matrices of a representation.
--
--   MatricesStored s T D         the lines of D hold matrices for all generators
use Rattle.std.specs.Prelude.{List, ℕ, ◌≤◌, ◌<◌}
use Rattle.definitions.specs.Presentation.{max_generators}
use Rattle.level.specs.declared.Listed.{Listed}
use Rattle.level.specs.Stored.{Stored}
use Rattle.seek.specs.declared.Scope.{Scope}

pub record MatricesStored (s : Scope) (T : List ℕ) (D : Listed) : Type 0 where
  pub few : s.gens ≤ max_generators
  pub modulus : 0 < s.m
  pub stored : Stored s.m s.gens T D
