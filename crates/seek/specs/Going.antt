-- A walk over the representations of a level, step by step.
--
--   Going s T i r a      the walk a is over level i of this table, and representation r is next
--   Gives a x b          x is what is next in a, where it is not the last, and b goes on behind it
use Rattle.std.specs.Prelude.{◌≡◌, List, ℕ, ◌+◌, length, Option, MatchOption}
use Rattle.definitions.specs.Table.{level_at}
use Rattle.level.specs.declared.Listed.{Listed}
use Rattle.seek.specs.declared.Scope.{Scope}
use Rattle.seek.specs.declared.Reps.{Reps}
use Rattle.seek.specs.Seek.{Found}

pub record Going (s : Scope) (T : List ℕ) (i r : ℕ) (a : Reps) : Type 0 where
  pub scope : a.scope ≡ s
  pub words : a.words.now ≡ T
  pub level : a.level ≡ i
  pub rep : a.rep ≡ r

abbrev pub Gives : Reps → Option Listed → Reps → Type 0
Gives a x b = MatchOption x (a.rep ≡ length (level_at a.scope.gens a.words.now a.level))
    (λ D. Found a.scope.gens a.words.now a.level a.rep D × Going a.scope a.words.now a.level (a.rep + 1) b)
