-- What reading a presentation text leaves.
--
--   Held                  what was read holds the relations R
--   ReadText              the answer to a text, and what is held where it is not refused
--   Concluded             the answer to what was kept of a text whose generators have room
use Rattle.std.specs.Prelude.{◌≡◌, cond, List, ℕ, ◌≤◌, leb, Result}
use Rattle.definitions.specs.Text.{Bytes}
use Rattle.definitions.specs.Presentation.{Relations, max_generators, max_order, presentation}
use Rattle.definitions.specs.Answers.{First, says, text_refusals}
use Rattle.results.specs.declared.Refusal.{Refusal}
use Rattle.results.specs.Numbers.{answer}
use Rattle.rows.specs.Rows.{Reads}
use Rattle.presentation.specs.declared.ReadPresentation.{ReadPresentation}
use Rattle.conditions.specs.Conditions.{product, all_well, Primes}

-- n, and primes and rows that are those of the presentation of R
pub record Held (R : Relations) (p : ReadPresentation) : Type 0 where
  pub count : p.n ≡ R.n
  pub few : R.n ≤ max_generators
  pub reads : Reads (presentation R) R.n p.primes p.rows

pub record ReadText (t : Bytes) (r : Result Unit Refusal) (p : ReadPresentation) : Type 0 where
  pub answered : First (text_refusals t) (answer r)
  pub held : answer r ≡ 0 → says t (λ R. Held R p)

pub record Concluded (n : ℕ) (rows : List (List ℕ)) (ps : List ℕ) (r : Result Unit Refusal) (p : ReadPresentation) : Type 0 where
  pub are : Primes ps n p.primes
  pub number : answer r ≡ cond (leb (product p.primes n) max_order) (cond (all_well rows ps p.primes n) 0 14) 13
  pub kept : (p.n ≡ n) × (p.rows ≡ rows)
