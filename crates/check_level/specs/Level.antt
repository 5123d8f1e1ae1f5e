-- A level above the first that is compared with the level below, and one that fits on it.
--
--   rep_at_level s T i r         representation r of level i, by its first line and degree
--   width_below T firsts g D    the degree of what the first column of D refers to
--   Compares s T rows g        every representation of the level of g is compared and has its power relation, and they claim apart
--   Relates s T firsts g rows  and its intertwiners are asked in single columns
--   LevelFits s T rows i p     what is known of level suc i then, for every presentation that says so
use Rattle.std.specs.Prelude.{List, ℕ, suc, ◌+◌, ◌<◌, length, get_or}
use Rattle.definitions.specs.Presentation.{Presentation}
use Rattle.definitions.specs.Table.{DEG, REF, word_at, first_line, level_at}
use Rattle.fitting.specs.Fits.{Fitting}
use Rattle.level.specs.declared.Listed.{Listed}
use Rattle.level.specs.Stored.{listed_in, Stored}
use Rattle.seek.specs.declared.Scope.{Scope}
use Rattle.seek.specs.Seek.{Found}
use Rattle.claims.specs.Claims.{Unshared}
use Rattle.compare.specs.declared.Stage.{Stage}
use Rattle.compare.specs.Blocks.{RepFits}
use Rattle.relations.specs.Said.{SaysTop}
use Rattle.check_columns.specs.Relates.{CarriesAll}
use Rattle.check_single.specs.Power.{PowerHolds}

abbrev pub rep_at_level : Scope → List ℕ → (i r : ℕ) → Listed
rep_at_level s T i r = listed_in T (first_line s.gens T i r)

abbrev pub width_below : (T firsts : List ℕ) → Stage → Listed → ℕ
width_below T firsts g D = word_at T (get_or firsts (g.low + word_at T D.line REF) 0) DEG

pub record Compares (s : Scope) (T : List ℕ) (rows : List (List ℕ)) (g : Stage) : Type 0 where
  pub each : (r : ℕ) → r < g.above → RepFits s T g (rep_at_level s T (suc g.top) r)
  pub powers : (r : ℕ) → r < g.above → PowerHolds s T rows g (rep_at_level s T (suc g.top) r)
  pub unshared : Unshared g.top (level_at s.gens T (suc g.top))

pub record Relates (s : Scope) (T firsts : List ℕ) (g : Stage) (rows : List (List ℕ)) : Type 0 where
  pub each : (r : ℕ) → r < g.above → let D = rep_at_level s T (suc g.top) r in CarriesAll s T firsts g D rows (width_below T firsts g D)

pub record LevelFits (s : Scope) (T : List ℕ) (rows : List (List ℕ)) (i p : ℕ) : Type 0 where
  pub fit : (P : Presentation) → SaysTop s rows i p P → (r : ℕ) → r < length (level_at s.gens T (suc i))
      → Fitting P s.gens s.m i (level_at s.gens T i) (level_at s.gens T (suc i)) r
  pub unshared : Unshared i (level_at s.gens T (suc i))
  pub stored : (r : ℕ) {D : Listed} → Found s.gens T (suc i) r D → Stored s.m s.gens T D
