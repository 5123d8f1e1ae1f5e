-- From the answer about a text to that of its measure.
--
--   measure-sized       the words of the measured size, for an accepted text
--   measured-builds     with as many words as were counted a build answers 0
--   measured-short      with fewer it answers 16
use mathlib.Core.Path.{◌≡◌, refl, sym, ap, subst, ◌∙◌}
use mathlib.Core.Logic.{inl, inr}
use mathlib.Core.List.{List}
use Prim.Native.Nat.{ℕ, ◌≤◌, ◌<◌}
use native.Mathlib.Omega.{arith}
use lib.ListN.{length}
use Rattle.definitions.specs.Text.{Bytes}
use Rattle.definitions.specs.Presentation.{Relations, build_words, presentation}
use Rattle.definitions.specs.Answers.{First, says, presentation_refusals, short, Measure, Build}
use Rattle.definitions.proofs.Refusals.{first_rest, accept-unrefused, leaves-finished}
use Rattle.definitions.proofs.Rendering.{says-unique}
use Rattle.std.specs.Prelude.{Result}
use Rattle.results.specs.declared.Refusal.{Refusal}
use Rattle.results.specs.Numbers.{answer}
use Rattle.presentation.specs.declared.ReadPresentation.{ReadPresentation}
use Rattle.conditions.specs.declared.size.Size.{Size}
use Rattle.conditions.specs.Size.{Measured}
use Rattle.acceptance.specs.Accepted.{AcceptedText}
use Rattle.acceptance.proofs.Answered.{accepts}
use Rattle.measurement.proofs.Sizes.{size-words}

module _ {t : Bytes} {r : Result Unit Refusal} {p : ReadPresentation} (a : AcceptedText t r p) (is : answer r ≡ 0) where
  pub measure-sized : {s : Size} → Measured p.primes p.n s → Measure t 0 s.words
  measure-sized M =
      let (R, says, S) = a.sound is in
      record { answered = accepts a is; leaves = leaves-finished (R, says, size-words S M) }

-- ---- The build of a text that was measured

module _ {t : Bytes} {k : ℕ} (M : Measure t 0 k) {before after : List ℕ} {answer count : ℕ} (B : Build t before answer count after) where
  -- 11 to 15 do not apply, so 16 is what is left
  left : First (short t (length before)) answer
  left = first_rest (short t (length before)) answer (presentation_refusals t) (accept-unrefused t M.answered) B.answered

  -- all relations that the text says want as many words as were counted
  counted : says t (λ (Q : Relations). length before < build_words (presentation Q)) → length before < k
  counted (Q, q, l) =
      let (P, s, e) = M.leaves.finished refl in
      subst (λ x. length before < x) (sym (e ∙ ap (λ (X : Relations). build_words (presentation X)) (says-unique t P Q s q))) l

  pub measured-builds : k ≤ length before → answer ≡ 0
  measured-builds l = go left
    where
      go : First (short t (length before)) answer → answer ≡ 0
      go (inl (w, e)) = absurd (omega (arith, counted w))
      go (inr (w, e)) = e

  pub measured-short : length before < k → answer ≡ 16
  measured-short l = go left
    where
      go : First (short t (length before)) answer → answer ≡ 16
      go (inl (w, e)) = e
      go (inr (w, e)) = let (P, s, z) = M.leaves.finished refl in absurd (w (P, s, subst (λ x. length before < x) z l))
