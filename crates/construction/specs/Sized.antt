-- What building the table of a sound presentation leaves. The code has what holds the relations and not the relations: what it leaves
-- is said of all that are held soundly.
--
--   Table R before count after                    the table of R was written from the first word on, and has so many lines
--   Sized p before answer count after        16 and nothing written where the words are fewer than a build wants, else the table
use Rattle.std.specs.Prelude.{◌≡◌, List, ℕ, ◌≤◌, ◌<◌, length}
use Rattle.definitions.specs.Presentation.{Relations, build_words, presentation}
use Rattle.definitions.specs.Table.{line_count}
use Rattle.definitions.specs.Steps.{table_of}
use Rattle.definitions.specs.Answers.{over}
use Rattle.presentation.specs.declared.ReadPresentation.{ReadPresentation}
use Rattle.acceptance.specs.Accepted.{Confirmed}

pub record Table (R : Relations) (before : List ℕ) (count : ℕ) (after : List ℕ) : Type 0 where
  pub lines : count ≡ line_count (table_of (presentation R))
  pub words : after ≡ over before (table_of (presentation R))

pub record Sized (p : ReadPresentation) (before : List ℕ) (answer count : ℕ) (after : List ℕ) : Type 0 where
  pub short : (R : Relations) → Confirmed R p → length before < build_words (presentation R) → (answer ≡ 16) × (count ≡ 0) × (after ≡ before)
  pub done : (R : Relations) → Confirmed R p → build_words (presentation R) ≤ length before → (answer ≡ 0) × Table R before count after
