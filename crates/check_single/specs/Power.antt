-- The power relation of the generator on top.
--
--   PowerHolds s T rows g D     it holds in column 0 of D, for every presentation that says so
use Rattle.std.specs.Prelude.{◌≡◌, true, List, ℕ}
use Rattle.definitions.specs.Presentation.{Presentation}
use Rattle.columns.specs.Columns.{power_at}
use Rattle.level.specs.declared.Listed.{Listed}
use Rattle.seek.specs.declared.Scope.{Scope}
use Rattle.seek.specs.Among.{rep_in}
use Rattle.compare.specs.declared.Stage.{Stage}
use Rattle.relations.specs.Said.{SaysTop}

pub record PowerHolds (s : Scope) (T : List ℕ) (rows : List (List ℕ)) (g : Stage) (D : Listed) : Type 0 where
  pub is : (P : Presentation) → SaysTop s rows g.top g.p P → power_at P s.m (rep_in T D) g.top 0 ≡ true
