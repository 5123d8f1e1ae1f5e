-- What checking words as a table of a sound presentation answers.
--
--   Checks p T a      the number of the judgement of T, for all relations that are held soundly
use Rattle.std.specs.Prelude.{◌≡◌, List, ℕ}
use Rattle.definitions.specs.Presentation.{Relations, order, presentation}
use Rattle.definitions.specs.Answers.{judgement}
use Rattle.presentation.specs.declared.ReadPresentation.{ReadPresentation}
use Rattle.acceptance.specs.Accepted.{Confirmed}

pub record Checks (p : ReadPresentation) (T : List ℕ) (a : ℕ) : Type 0 where
  pub is : (R : Relations) → Confirmed R p → a ≡ judgement (presentation R) (order (presentation R) (presentation R).n) T
