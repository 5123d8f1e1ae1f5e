-- From the answer about a text, and the scan over its commutator words, to what is told of it.
--
--   scan-tells               the scan tells what is read off the table
--   commutative-told         an accepted text
use mathlib.Core.Path.{◌≡◌, sym, subst, ◌∙◌, ap}
use mathlib.Core.Bool.{Bool, cond}
use Rattle.definitions.specs.Text.{Bytes}
use Rattle.definitions.specs.Presentation.{Relations, presentation}
use Rattle.definitions.specs.Steps.{top_degrees_one}
use Rattle.definitions.specs.Answers.{Commutative}
use Rattle.definitions.proofs.Refusals.{leaves-finished}
use Rattle.numbers.proofs.Bools.{same_test}
use Rattle.group.specs.Models.{WordsEmpty}
use Rattle.clifford.proofs.Commutative.{top-ones}
use Rattle.std.specs.Prelude.{Result}
use Rattle.results.specs.declared.Refusal.{Refusal}
use Rattle.results.specs.Numbers.{answer}
use Rattle.presentation.specs.declared.ReadPresentation.{ReadPresentation}
use Rattle.rows.specs.Rows.{Reads}
use Rattle.acceptance.specs.Accepted.{Confirmed, AcceptedText}
use Rattle.acceptance.proofs.Answered.{reads_held, accepts}
use Rattle.commutators.specs.Empty.{rows_empty}
use Rattle.commutators.proofs.Scan.{empty-words, words-empty}

scan-tells : {R : Relations} {p : ReadPresentation} → Confirmed R p → rows_empty p.rows p.n ≡ top_degrees_one (presentation R)
unfolding presentation
scan-tells {R} {p} S =
    let read : Reads (presentation R) p.n p.primes p.rows = reads_held S.passed.held in
    let n_is : p.n ≡ R.n = S.passed.held.count in
    let (ones, empty) = top-ones R S.passed.formed S.passed.primes S.passed.used S.consistent in
    same_test (rows_empty p.rows p.n) (top_degrees_one (presentation R))
    (λ h. empty (subst (WordsEmpty (presentation R)) n_is (empty-words read h)))
    (λ h. words-empty read (subst (WordsEmpty (presentation R)) (sym n_is) (ones h)))

module _ {t : Bytes} {r : Result Unit Refusal} {p : ReadPresentation} (a : AcceptedText t r p) (is : answer r ≡ 0) where
  pub commutative-told : {b : Bool} → b ≡ rows_empty p.rows p.n → Commutative t 0 (cond b 1 0)
  commutative-told scan =
      let (R, s, S) = a.sound is in
      record { answered = accepts a is; leaves = leaves-finished (R, s, ap (λ b. cond b 1 0) (scan ∙ scan-tells S)) }
