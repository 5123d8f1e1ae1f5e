-- A walk over the cases of an input.
--
--   GivesCase a x b      x is the line and the text of the first case of a, if there is one, and b goes on behind it
use Rattle.std.specs.Prelude.{◌≡◌, List, ℕ, length, Option, MatchOption}
use Rattle.std.specs.Borrow.{Bor}
use Rattle.std.specs.List.{between}
use Rattle.case_input.specs.Cases.{case_text, case_end, case_next}
use Rattle.case_input.specs.declared.Input.{Input}

abbrev pub GivesCase : Input → Option (Bor (List ℕ) × Bor (List ℕ)) → Input → Type 0
GivesCase a x b = MatchOption x (length a.rest.now ≡ 0)
    (λ p.
    let s = a.rest.now in
    (p.0.now ≡ between 0 (case_text s 0) s) × (p.1.now ≡ between (case_text s 0) (case_end s 0) s) × (b.rest.now ≡ between (case_next s 0) (length s) s))
