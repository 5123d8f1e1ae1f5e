-- From the reader's answer to that of the call.
--
--   reads_held        what is held, as the consistency test takes it
--   ranged, ready     what is not refused is in range for that test, and so is what the reader has read
--   accepted-consistent, accepted-inconsistent     the answers 0 and 15
--   accepts           a text whose presentation was accepted is accepted
use mathlib.Core.Path.{◌≡◌, refl, sym, subst, ◌∙◌}
use mathlib.Core.Logic.{inl, inr}
use mathlib.Core.Bool.{Bool, true, false, false≢true}
use Rattle.definitions.specs.Text.{Bytes}
use Rattle.definitions.specs.Presentation.{Relations, presentation, some_not_prime, too_large, misused}
use Rattle.definitions.specs.Consistency.{Consistent}
use Rattle.definitions.specs.Answers.{First, says, text_refusals, inconsistent, Accept}
use Rattle.definitions.proofs.Refusals.{None, first-none, first-behind, unsaid}
use Rattle.definitions.proofs.Rendering.{says-unique}
use Rattle.std.specs.Prelude.{Result, Ok, Err}
use Rattle.results.specs.declared.Refusal.{Refusal}
use Rattle.results.specs.declared.Refusal.TheVariants.{Inconsistent}
use Rattle.results.specs.Numbers.{answer}
use Rattle.results.proofs.Numbers.{number-nonzero}
use Rattle.presentation.specs.declared.ReadPresentation.{ReadPresentation}
use Rattle.presentation.specs.Outcome.{Held, ReadText}
use Rattle.rows.specs.Rows.{Ranged, Reads}
use Rattle.consistency.specs.Answers.{DecidesTest}
use Rattle.consistency.proofs.Relations.{reads-ready, decides-consistent}
use Rattle.acceptance.specs.Accepted.{Unrefused, AcceptedText}

-- ---- What is known behind the reader

pub reads_held : {R : Relations} {p : ReadPresentation} → Held R p → Reads (presentation R) p.n p.primes p.rows
reads_held {R} {p} h = subst (λ m. Reads (presentation R) m p.primes p.rows) (sym h.count) h.reads

pub ranged : {R : Relations} {p : ReadPresentation} → Unrefused R p → Ranged p.n p.primes p.rows
ranged {R} u = reads-ready R u.formed u.primes u.used _ u.held.count _ _ (reads_held u.held) u.fits

module _ {t : Bytes} {r : Result Unit Refusal} {p : ReadPresentation} (read : ReadText t r p) where
  module _ (is : answer r ≡ 0) where
    none : None (text_refusals t)
    none = first-none (text_refusals t) refl (subst (First (text_refusals t)) is read.answered)

    passed_none : None (text_refusals t) → says t (λ (R : Relations). Held R p) → says t (λ (R : Relations). Unrefused R p)
    passed_none (h, (k, (l, (m, e)))) (R, s, d) =
        (R, s, record { formed = s.formed; primes = unsaid some_not_prime s k; fits = unsaid too_large s l; used = unsaid misused s m; held = d })

    -- the relations that t says, and what is known of them
    said : says t (λ (R : Relations). Unrefused R p)
    said = passed_none none (read.held is)

    abbrev R : Relations
    R = said.0

    passed : Unrefused R p
    passed = said.2

    pub ready : Ranged p.n p.primes p.rows
    ready = ranged passed

    module _ {b : Bool} (decides : DecidesTest p.n p.primes p.rows b) where
      decided : (b ≡ true → Consistent (presentation R)) × (Consistent (presentation R) → b ≡ true)
      decided = decides-consistent R passed.formed passed.primes passed.used _ passed.held.count _ _ (reads_held passed.held) b decides

      pub accepted-consistent : b ≡ true → AcceptedText t (Ok tt) p
      accepted-consistent e =
          record {
            answered = first-behind (inconsistent t) 0 (text_refusals t) none (inr (allowed, refl));
            sound = λ z. (R, said.1, record { passed = passed; consistent = decided.0 e });
          }
        where
          allowed : ¬ says t (λ (R : Relations). ¬ Consistent (presentation R))
          allowed (Q, s, h) = h (subst (λ (R : Relations). Consistent (presentation R)) (says-unique t R Q said.1 s) (decided.0 e))

      pub accepted-inconsistent : b ≡ false → AcceptedText t (Err Inconsistent) p
      accepted-inconsistent e = record {
        answered = first-behind (inconsistent t) 15 (text_refusals t) none (inl ((R, said.1, λ c. false≢true (sym e ∙ decided.1 c)), refl));
        sound = λ z. absurd (number-nonzero Inconsistent z);
      }

pub accepts : {t : Bytes} {r : Result Unit Refusal} {p : ReadPresentation} → AcceptedText t r p → answer r ≡ 0 → Accept t 0
accepts {t} a is = subst (Accept t) is a.answered
