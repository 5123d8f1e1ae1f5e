-- What the functions of the program leave.
--
--   room                        the bytes that the text of the words that are lent has at most
--   Tabulated cs t answer o     the first that applies of the refusals cs, and the text of the table if the answer is 0
use Rattle.std.specs.Prelude.{◌≡◌, List, ℕ, ◌+◌, ◌*◌, ◌/◌}
use Rattle.definitions.specs.Text.{Bytes}
use Rattle.definitions.specs.Presentation.{presentation}
use Rattle.definitions.specs.Table.{table_text}
use Rattle.definitions.specs.Steps.{table_of}
use Rattle.definitions.specs.Answers.{First, says}
use Rattle.definitions.specs.Programs.{lent_words}

-- 34 for the line of names, and for a line 80, eight values of nine digits with a byte behind each
abbrev pub room : ℕ
room = 34 + 80 * (lent_words / 8)

-- the text of a finished build is always written
pub record Tabulated (cs : List (ℕ × Type 0)) (t : Bytes) (answer : ℕ) (o : Bytes) : Type 0 where
  pub answered : First cs answer
  pub written : answer ≡ 0 → says t (λ R. o ≡ table_text (table_of (presentation R)))
