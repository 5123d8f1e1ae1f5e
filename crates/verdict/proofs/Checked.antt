-- From the answers about a text and of the judgement to that of the check.
--
--   task-of, judged-said     what judging a table asks, and its number for the relations
--   checks-of         the judgement of words as a table of a sound presentation
--   check-judges      the number of the judgement, for an accepted text
use mathlib.Core.Path.{◌≡◌, sym, ap, subst, ◌∙◌}
use mathlib.Core.List.{List}
use Prim.Native.Nat.{ℕ, ◌≤◌, ◌<◌}
use native.Mathlib.Omega.{arith}
use Rattle.definitions.specs.Text.{Bytes}
use Rattle.definitions.specs.Presentation.{Relations, max_modulus, order, presentation}
use Rattle.definitions.specs.Answers.{judgement, Check}
use Rattle.definitions.proofs.Refusals.{accept-unrefused, check-judged}
use Rattle.std.specs.Prelude.{Result}
use Rattle.results.specs.declared.Refusal.{Refusal}
use Rattle.results.specs.Numbers.{answer}
use Rattle.presentation.specs.declared.ReadPresentation.{ReadPresentation}
use Rattle.conditions.specs.declared.size.Size.{Size}
use Rattle.conditions.specs.Size.{Measured}
use Rattle.group.proofs.Order.{order-positive}
use Rattle.rows.specs.Rows.{Reads}
use Rattle.checker.specs.Judged.{Task, Judged}
use Rattle.acceptance.specs.Accepted.{Confirmed, AcceptedText}
use Rattle.acceptance.proofs.Answered.{reads_held, ranged, accepts}
use Rattle.measurement.proofs.Sizes.{A, same, is-small, count_of, product_is, measurable, size-order}
use Rattle.verdict.specs.Checked.{Checks}

module _ {R : Relations} {p : ReadPresentation} (S : Confirmed R p) {s : Size} (M : Measured p.primes p.n s) where
  pub task-of : Task (A S) p.n s.order p.rows p.primes
  task-of =
      record {
        gens_are = count_of S;
        modulus = (
          subst (λ x. 0 < x) (sym size-group) (order-positive (A S).C (A S).C.P.n),
          subst (λ x. x ≤ max_modulus) (sym size-group) (is-small S).low,
        );
        ready = ranged S.passed;
        reads = subst (λ Q. Reads Q p.n p.primes p.rows) (sym (same S)) (reads_held S.passed.held);
        orders_fit = measurable S;
      }
    where
      size-group : s.order ≡ order (A S).C.P (A S).C.P.n
      size-group = M.order_is ∙ product_is S p.n (omega arith) ∙ ap (λ Q. order Q p.n) (sym (same S)) ∙ ap (order (A S).C.P) (count_of S)

  judged-said : {T : List ℕ} {a : ℕ} → Judged p.n s.order p.rows p.primes T a
      → a ≡ judgement (presentation R) (order (presentation R) (presentation R).n) T
  unfolding presentation
  judged-said {T} J = J.is (A S) task-of ∙ ap (λ Q. judgement Q s.order T) (same S) ∙ ap (λ m. judgement (presentation R) m T) (size-order S M)

pub checks-of : {p : ReadPresentation} {s : Size} {T : List ℕ} {a : ℕ} → Measured p.primes p.n s
    → Judged p.n s.order p.rows p.primes T a → Checks p T a
checks-of M J = record { is = λ R S. judged-said S M J }

module _ {t : Bytes} {r : Result Unit Refusal} {p : ReadPresentation} (A : AcceptedText t r p) (T : List ℕ) (is : answer r ≡ 0) where
  pub check-judges : {a : ℕ} → Checks p T a → Check t T a
  check-judges {a} J =
      let (R, z, S) = A.sound is in
      (check-judged t (accept-unrefused t (accepts A is)) R z (λ P. order P P.n) T a).1 (J.is R S)
