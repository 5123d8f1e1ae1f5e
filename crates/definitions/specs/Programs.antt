-- The programs: what they lend to the calls, and how long a file may be ("Table lines" in the specification). A longer
-- file is refused, and nothing of it is looked at.
--
--   lent_words                      the words that a program lends for a table
--   group_bytes, table_bytes         the bytes of a presentation text and of a table text, at most
--   answer_names, answer_text a      the text of an answer, and all that repcheck prints
--   reptable_refusals t             what reptable answers to the bytes t of its file: 11 for too many, then 11 to 16 of a build
--   Reptable t answer out          and what it prints: the text of the table beside answer 0, that of the answer beside a refusal
--   group_refusals g                what repcheck answers to the bytes g of the group's file: 11 for too many, then 11 to 15
--   table_file_refusals t            to the bytes t of the table's file: 20 for too many, then 16 and 20 of a reading
--   said_test g t q                 the test q applies to the words that the table text t says
--   said_refusals g t               21 to 26, for the words that the table text t says
--   repcheck_refusals g t           all of these, the group's first
--   Repcheck g t answer            what repcheck answers to the bytes of its files
use Rattle.std.specs.Prelude.{◌≡◌, Bool, true, List, [], ◌∷◌, ◌++◌, map, ℕ, ◌<◌, length}
use Rattle.definitions.specs.Text.{Bytes, render}
use Rattle.definitions.specs.Presentation.{Presentation, order, presentation}
use Rattle.definitions.specs.Table.{table_text}
use Rattle.definitions.specs.Steps.{table_of}
use Rattle.definitions.specs.Answers.{First, says, presentation_refusals, build_refusals, judgements, TableSays, read_refusals}

abbrev pub lent_words : ℕ
lent_words = 8192

abbrev pub group_bytes : ℕ
group_bytes = 4096

abbrev pub table_bytes : ℕ
table_bytes = 24576

-- answer
unfoldable pub answer_names : List Bytes
answer_names = (97 ∷ 110 ∷ 115 ∷ 119 ∷ 101 ∷ 114 ∷ []) ∷ []

-- a line with the name, and a line with the number
unfoldable pub answer_text : ℕ → Bytes
answer_text answer = render answer_names ((answer ∷ []) ∷ [])

abbrev pub reptable_refusals : Bytes → List (ℕ × Type 0)
reptable_refusals t = (11, group_bytes < length t) ∷ build_refusals t lent_words

pub record Reptable (t : Bytes) (answer : ℕ) (out : Bytes) : Type 0 where
  pub answered : First (reptable_refusals t) answer
  pub printed : answer ≡ 0 → says t (λ R. out ≡ table_text (table_of (presentation R)))
  pub refused : ¬ (answer ≡ 0) → out ≡ answer_text answer

abbrev pub group_refusals : Bytes → List (ℕ × Type 0)
group_refusals g = (11, group_bytes < length g) ∷ presentation_refusals g

abbrev pub table_file_refusals : Bytes → List (ℕ × Type 0)
table_file_refusals t = (20, table_bytes < length t) ∷ read_refusals t lent_words

-- a test of the check, of the words that the table text says and the presentation that the group text says
abbrev pub said_test : Bytes → Bytes → (Presentation → ℕ → List ℕ → Bool) → Type 0
said_test g t q = (T : List ℕ) × TableSays t T × says g (λ R. let P = presentation R in q P (order P P.n) T ≡ true)

abbrev pub said_refusals : Bytes → Bytes → List (ℕ × Type 0)
said_refusals g t = map (λ (q : ℕ × (Presentation → ℕ → List ℕ → Bool)). (q.0, said_test g t q.1)) judgements

abbrev pub repcheck_refusals : Bytes → Bytes → List (ℕ × Type 0)
repcheck_refusals g t = group_refusals g ++ (table_file_refusals t ++ said_refusals g t)

abbrev pub Repcheck : Bytes → Bytes → ℕ → Type 0
Repcheck g t answer = First (repcheck_refusals g t) answer
