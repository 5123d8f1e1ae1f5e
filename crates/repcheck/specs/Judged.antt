-- What the functions of the program leave.
--
--   Replied g t answer      the answer to the table text t beside a presentation text g that is accepted: 16 and 20 of reading
--                          it into the words that are lent, then 21 to 26 of what it says
use Rattle.std.specs.Prelude.{◌++◌, ℕ}
use Rattle.definitions.specs.Text.{Bytes}
use Rattle.definitions.specs.Answers.{First, read_refusals}
use Rattle.definitions.specs.Programs.{lent_words, said_refusals}

pub record Replied (g t : Bytes) (answer : ℕ) : Type 0 where
  pub answered : First (read_refusals t lent_words ++ said_refusals g t) answer
