-- From the answer about a text to that of its build.
--
--   given                 what building the levels asks
--   table-written         the levels are the table
--   sized-short, sized-done    16, or the table
--   build-sized           and so for the text that says the relations
use mathlib.Core.Path.{◌≡◌, refl, sym, ap, subst, ◌∙◌}
use mathlib.Core.Logic.{inl, inr, by_cases}
use mathlib.Core.List.{List, ◌++◌}
use Prim.Native.Nat.{ℕ, ◌+◌, ◌*◌, ◌/◌, ◌≤◌, ◌<◌}
use native.Mathlib.Nat.{mul-div_right}
use native.Mathlib.Omega.{arith}
use native.Mathlib.Decide.{dec_lt}
use lib.ListN.{length, drop}
use Rattle.definitions.specs.Text.{Bytes}
use Rattle.definitions.specs.Presentation.{Relations, line_words, order, build_words, presentation}
use Rattle.definitions.specs.Table.{line_count}
use Rattle.definitions.specs.Steps.{table_of}
use Rattle.definitions.specs.Answers.{says, presentation_refusals, short, over, Build}
use Rattle.definitions.proofs.Refusals.{None, first-behind, accept-unrefused}
use Rattle.definitions.proofs.Rendering.{says-unique}
use Rattle.std.specs.Prelude.{Result}
use Rattle.results.specs.declared.Refusal.{Refusal}
use Rattle.results.specs.Numbers.{answer as number-of}
use Rattle.presentation.specs.declared.ReadPresentation.{ReadPresentation}
use Rattle.conditions.specs.declared.size.Size.{Size}
use Rattle.conditions.specs.Size.{Measured}
use Rattle.text.specs.Writing.{put, Wrote}
use Rattle.text.proofs.Writing.{wrote_as}
use Rattle.levels.specs.Built.{up_to}
use Rattle.levels.proofs.Stated.{reads-accepted, table-of}
use Rattle.levels.specs.Given.{Given, AllWritten}
use Rattle.acceptance.specs.Accepted.{Confirmed, AcceptedText}
use Rattle.acceptance.proofs.Answered.{accepts}
use Rattle.measurement.proofs.Sizes.{A, same, is-small, count_of, size-order, size-words}
use Rattle.construction.specs.Sized.{Table, Sized}

-- ---- The levels

module _ {R : Relations} {p : ReadPresentation} (S : Confirmed R p) where
  pub given : {s : Size} → Measured p.primes p.n s → (have : ℕ) → s.words ≤ have → Given p.rows p.primes p.n s.order have (A S)
  unfolding presentation
  given M have l = record {
    small = is-small S;
    n_is = count_of S;
    m_is = size-order S M ∙ ap (λ P. order P P.n) (sym (same S));
    reads = reads-accepted R S.passed.formed S.passed.primes S.passed.used S.consistent p.primes p.rows S.passed.held.reads;
    room = subst (λ P. build_words P ≤ have) (sym (same S)) (subst (λ x. x ≤ have) (size-words S M) l);
  }

  table-written : {before after : List ℕ} {count : ℕ} → Wrote before 0 (up_to (A S) (A S).C.P.n) after (8 * count) → Table R before count after
  unfolding over put line_count line_words
  table-written {before} {after} {count} W =
      let T = table_of (presentation R) in
      let w : Wrote before 0 T after (8 * count) = wrote_as W (table-of R S.passed.formed S.passed.primes S.passed.used S.consistent) in
      let e : 0 + length T ≡ length T = omega arith in
      record {
        lines = sym (ap (λ x. x / 8) (sym (w.end ∙ e)) ∙ mul-div_right count (omega arith));
        words = w.content ∙ ap (λ m. T ++ drop m before) e;
      }

-- ---- 16, or the table

module _ {p : ReadPresentation} {s : Size} (M : Measured p.primes p.n s) (before : List ℕ) where
  pub sized-short : length before < s.words → Sized p before 16 0 before
  sized-short l = record { short = λ R S b. (refl, refl, refl); done = λ R S b. absurd (omega (arith, size-words S M)) }

  pub sized-done : {count : ℕ} {after : List ℕ} → s.words ≤ length before → AllWritten p.rows p.primes p.n s.order before count after
      → Sized p before 0 count after
  sized-done l W = record {
    short = λ R S b. absurd (omega (arith, size-words S M));
    done = λ R S b. (refl, table-written S (W (A S) (given S M (length before) l)));
  }

-- ---- The call

pub build-sized : {t : Bytes} {r : Result Unit Refusal} {p : ReadPresentation} {before after : List ℕ} {answer count : ℕ} → AcceptedText t r p → number-of r ≡ 0
    → Sized p before answer count after → Build t before answer count after
build-sized {t} {r} {p} {before} {after} {answer} {count} a is z = by_cases (dec_lt (length before) (build_words (presentation R)))
    (λ l.
    let d = z.short R said.2 l in
    record {
      answered = first-behind (short t (length before)) answer (presentation_refusals t) none (inl ((R, said.1, l), d.0));
      leaves = record { finished = λ e. absurd (omega (arith, d.0)); refused = λ n. (d.1, d.2) };
    })
    (λ l.
    let d = z.done R said.2 (omega arith) in
    record {
      answered = first-behind (short t (length before)) answer (presentation_refusals t) none (inr (enough l, d.0));
      leaves = record { finished = λ e. (R, said.1, (d.1.lines, d.1.words)); refused = λ n. absurd (n d.0) };
    })
  where
    said : says t (λ (R : Relations). Confirmed R p)
    said = a.sound is

    R : Relations
    R = said.0

    none : None (presentation_refusals t)
    none = accept-unrefused t (accepts a is)

    enough : ¬ (length before < build_words (presentation R)) → ¬ says t (λ (Q : Relations). length before < build_words (presentation Q))
    enough h (Q, q, l) = h (subst (λ (x : Relations). length before < build_words (presentation x)) (says-unique t Q R q said.1) l)
