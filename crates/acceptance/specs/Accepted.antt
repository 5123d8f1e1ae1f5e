-- What examining a presentation leaves.
--
--   Unrefused R p              none of 11 to 14 refuses the relations R, and p holds them
--   Confirmed R p              and nor does 15
--   SomeSound p                so for some relations: the code has what holds them, and not the relations
--   AcceptedText t r p         the answer to the text t, and what is confirmed of p where it is not refused
use Rattle.std.specs.Prelude.{◌≡◌, true, false, Result}
use Rattle.definitions.specs.Text.{Bytes}
use Rattle.definitions.specs.Presentation.{Relations, well_formed, presentation, some_not_prime, too_large, misused}
use Rattle.definitions.specs.Consistency.{Consistent}
use Rattle.definitions.specs.Answers.{says, Accept}
use Rattle.results.specs.declared.Refusal.{Refusal}
use Rattle.results.specs.Numbers.{answer}
use Rattle.presentation.specs.declared.ReadPresentation.{ReadPresentation}
use Rattle.presentation.specs.Outcome.{Held}

pub record Unrefused (R : Relations) (p : ReadPresentation) : Type 0 where
  pub formed : well_formed R ≡ true
  pub primes : some_not_prime R ≡ false
  pub fits : too_large R ≡ false
  pub used : misused R ≡ false
  pub held : Held R p

pub record Confirmed (R : Relations) (p : ReadPresentation) : Type 0 where
  pub passed : Unrefused R p
  pub consistent : Consistent (presentation R)

abbrev pub SomeSound : ReadPresentation → Type 0
SomeSound p = (R : Relations) × Confirmed R p

pub record AcceptedText (t : Bytes) (r : Result Unit Refusal) (p : ReadPresentation) : Type 0 where
  pub answered : Accept t (answer r)
  pub sound : answer r ≡ 0 → says t (λ R. Confirmed R p)
