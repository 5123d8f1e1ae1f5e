-- What a finished build leaves passes the check.
--
--   primes, fits, words-used, consistent     what an unrefused text says has primes, is within the ceilings, uses words as
--                         allowed, and is consistent
--   passes-check          the check of its table answers 0
--   left_behind           the table stands at the start of the buffer that it was written over
--   built-checks          a finished build leaves words whose check answers 0
use mathlib.Core.Path.{◌≡◌, refl, sym, ◌∙◌, ap, ap₂, subst}
use mathlib.Core.Logic.{by_cases}
use mathlib.Core.Bool.{false}
use mathlib.Core.List.{List, ◌++◌}
use Prim.Native.Nat.{ℕ, ◌*◌, ◌/◌}
use native.Mathlib.Nat.{mul-div_right}
use native.Mathlib.Omega.{arith}
use lib.ListN.{length, take, drop}
use lib.Seq.{take-append_seam}
use Rattle.definitions.specs.Text.{Bytes}
use Rattle.definitions.specs.Presentation.{line_words, order, Relations, Says, presentation, some_not_prime, too_large, misused}
use Rattle.definitions.specs.Consistency.{Consistent}
use Rattle.definitions.specs.Table.{line_count}
use Rattle.definitions.specs.Steps.{table_of}
use Rattle.definitions.specs.Answers.{over, Build, Check}
use Rattle.definitions.proofs.Refusals.{unsaid, Unrefused, build-unrefused, check-judged}
use Rattle.group.proofs.Context.{decision}
use Rattle.clifford.proofs.Theorem.{built-passes, table-words}

module _ (t : Bytes) (U : Unrefused t) (R : Relations) (s : Says t R) where
  pub primes : some_not_prime R ≡ false
  primes = unsaid some_not_prime s U.1.0

  pub fits : too_large R ≡ false
  fits = unsaid too_large s U.1.1.0

  pub words-used : misused R ≡ false
  words-used = unsaid misused s U.1.1.1.0

  pub consistent : Consistent (presentation R)
  consistent = by_cases (decision R s.formed primes words-used) (λ c. c) (λ c. absurd (U.1.1.1.1.0 (R, s, c)))

  abbrev T : List ℕ
  T = table_of (presentation R)

  pub passes-check : Check t (table_of (presentation R)) 0
  passes-check = (check-judged t U R s (λ P. order P P.n) T 0).1 (sym (built-passes R s.formed primes words-used consistent))

  pub left_behind : (before : List ℕ)
      → take (line_words * line_count (table_of (presentation R))) (over before (table_of (presentation R))) ≡ table_of (presentation R)
  unfolding over line_count line_words
  left_behind before =
      let (k, e) = table-words R s.formed primes words-used consistent in
      let whole : line_words * line_count T ≡ length T
      = ap (λ z. line_words * (z / line_words)) e ∙ ap (λ z. line_words * z) (mul-div_right k (omega arith)) ∙ sym e in
      ap (λ k. take k (T ++ drop (length T) before)) whole ∙ take-append_seam T _

pub built-checks : (t : Bytes) (before : List ℕ) (count : ℕ) (after : List ℕ) → Build t before 0 count after → Check t (take (line_words * count) after) 0
built-checks t before count after B =
    let U = build-unrefused t (length before) B.answered in
    let (R, s, (k, w)) = B.leaves.finished refl in
    subst (λ T. Check t T 0) (sym (ap₂ (λ k w. take (line_words * k) w) k w ∙ left_behind t U R s before)) (passes-check t U R s)
