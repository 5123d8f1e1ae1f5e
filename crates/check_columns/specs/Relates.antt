-- The intertwiners and the generator on top, in single columns.
--
--   CarryAsked s T D E i j v       D and E hold matrices of one degree, j is above i, and v and the degree are within bounds
--   Carries s T D E i j v P        the intertwiner of generator j carries generator i from D to E, in every v-th column
--   led_to T firsts g D j           where the intertwiner of generator j leads from D
--   LeadsTo s T firsts g D j         it leads to lines that hold matrices of the same degree
--   Reached s T firsts g D         so for every generator above the top, and D holds matrices
--   CarriesAll s T firsts g D rows v     all of them carry generator i over, in every v-th column
use Rattle.std.specs.Prelude.{◌≡◌, true, List, ℕ, ◌+◌, ◌*◌, ◌≤◌, ◌<◌, length, get_or}
use Rattle.definitions.specs.Presentation.{Presentation}
use Rattle.columns.specs.Columns.{intertwines_at}
use Rattle.level.specs.declared.Listed.{Listed}
use Rattle.level.specs.Stored.{listed_in, target_in}
use Rattle.seek.specs.declared.Scope.{Scope}
use Rattle.seek.specs.Among.{rep_in}
use Rattle.relations.specs.Kept.{MatricesStored}
use Rattle.relations.specs.Said.{SaysTop}
use Rattle.compare.specs.declared.Stage.{Stage}
use Rattle.compare.specs.Staged.{max_lines}

abbrev pub CarryAsked : Scope → List ℕ → (D E : Listed) → (i j v : ℕ) → Type 0
CarryAsked s T D E i j v =
    MatricesStored s T D × MatricesStored s T E × (E.deg ≡ D.deg) × (i < j) × (j < s.gens) × (0 < v) × (v ≤ max_lines) × (D.deg ≤ max_lines)

abbrev pub Carries : Scope → List ℕ → (D E : Listed) → (i j v : ℕ) → Presentation → Type 0
Carries s T D E i j v P = (k : ℕ) → k * v < D.deg → intertwines_at P s.m (rep_in T D) (rep_in T E) i j (k * v) ≡ true

abbrev pub led_to : (T firsts : List ℕ) → Stage → Listed → ℕ → Listed
led_to T firsts g D j = listed_in T (get_or firsts (g.high + target_in T D j) 0)

module _ (s : Scope) (T firsts : List ℕ) (g : Stage) (D : Listed) where
  pub record LeadsTo (j : ℕ) : Type 0 where
    pub place : (g.high + target_in T D j < length firsts) × (8 * get_or firsts (g.high + target_in T D j) 0 + 8 ≤ length T)
    pub kept : MatricesStored s T (led_to T firsts g D j)
    pub degree : (led_to T firsts g D j).deg ≡ D.deg

  pub record Reached : Type 0 where
    pub top : g.top < s.gens
    pub kept : MatricesStored s T D
    pub narrow : D.deg ≤ max_lines
    pub leads : (j : ℕ) → g.top < j → j < s.gens → LeadsTo j

  pub record CarriesAll (rows : List (List ℕ)) (v : ℕ) : Type 0 where
    pub each : (j : ℕ) → g.top < j → j < s.gens → (P : Presentation) → SaysTop s rows g.top g.p P
        → Carries s T D (led_to T firsts g D j) g.top j v P
