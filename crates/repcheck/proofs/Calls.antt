-- From what accept, read_table and check answer and leave to what the program answers.
--
--   finished            a reading that is not refused
--   lines-within        the words of a finished reading stand within the buffer
--   refused             a refused reading
--   checked             a finished reading, and the check of its words
--   group-long, group-refused     the bytes of the group's file: too many, and refused
--   table-long, table-short       the bytes of the table's file: too many, and not too many
use mathlib.Core.Path.{◌≡◌, refl, ap, ap₂, ◌∙◌, subst}
use mathlib.Core.Logic.{inl, inr}
use mathlib.Core.List.{List, ◌++◌}
use Prim.Native.Nat.{ℕ, ◌*◌, ◌≤◌, ◌<◌}
use native.Mathlib.Omega.{arith}
use lib.ListN.{length, take}
use Rattle.std.specs.Prelude.{Result, Ok}
use Rattle.results.specs.declared.Refusal.{Refusal}
use Rattle.results.specs.Numbers.{answer, counted}
use Rattle.definitions.specs.Text.{Bytes}
use Rattle.definitions.specs.Presentation.{order}
use Rattle.definitions.specs.Answers.{First, presentation_refusals, table_refusals, read_refusals, Accept, Check, ReadTable}
use Rattle.definitions.specs.Programs.{lent_words, group_bytes, table_bytes, group_refusals, table_file_refusals, said_refusals, Repcheck}
use Rattle.definitions.proofs.Refusals.{None, first-none, first-refused, first-behind, first_rest, accept-unrefused}
use Rattle.table_text.proofs.Calls.{over-within, over-take, says-lines, said-first}
use Rattle.repcheck.specs.Judged.{Replied}

-- ---- The words of a finished reading

-- a reading that is finished
pub finished : {t : Bytes} {before after : List ℕ} {r : Result ℕ Refusal} {lines : ℕ} → r ≡ Ok lines → ReadTable t before (answer r) (counted r) after → ReadTable t before 0 lines after
finished {t} {before} {after} is B = subst (λ (x : Result ℕ Refusal). ReadTable t before (answer x) (counted x) after) is B

module _ {t : Bytes} {before after : List ℕ} {status count : ℕ} where
  pub lines-within : status ≡ 0 → ReadTable t before status count after → 8 * count ≤ length after
  lines-within e B =
      let (T, s, k, w) = B.leaves.finished e in
      omega (arith, k, ap length w, over-within before T, says-lines s)

  pub refused : (g : Bytes) → length before ≡ lent_words → ¬ (status ≡ 0) → ReadTable t before status count after
      → Replied g t status
  refused g l ne B = record {
    answered = first-refused (said_refusals g t) status (read_refusals t lent_words) (subst (λ k. First (read_refusals t k) status) l B.answered) ne;
  }

-- ---- Their check

pub checked :
    (g : Bytes) {t : Bytes} {before after : List ℕ} {status count a : ℕ} → length before ≡ lent_words → Accept g 0 → status ≡ 0
    → ReadTable t before status count after → Check g (take (8 * count) after) a → Replied g t a
checked g {t} {before} {after} {status} {count} {a} l f e B C =
    let (T, s, k, w) = B.leaves.finished e in
    let n : 8 * count ≡ length T = omega (arith, k, says-lines s) in
    let q : take (8 * count) after ≡ T = ap₂ take n w ∙ over-take before T in
    let none : First (read_refusals t lent_words) 0 = subst (First (read_refusals t lent_words)) e (subst (λ h. First (read_refusals t h) status) l B.answered) in
    let tests = first_rest (table_refusals g (λ P. order P P.n) T) a (presentation_refusals g) (accept-unrefused g f) (subst (λ T. Check g T a) q C) in
    record {
      answered = first-behind (said_refusals g t) a (read_refusals t lent_words) (first-none (read_refusals t lent_words) refl none) (said-first s tests);
    }

-- ---- Files

module _ (g t : Bytes) where
  abbrev behind : List (ℕ × Type 0)
  behind = table_file_refusals t ++ said_refusals g t

  pub group-long : group_bytes < length g → Repcheck g t 11
  group-long l = inl (l, refl)

  module _ (l : length g ≤ group_bytes) where
    few : ¬ (group_bytes < length g)
    few h = omega arith

    pub group-refused : {a : ℕ} → ¬ (a ≡ 0) → Accept g a → Repcheck g t a
    group-refused {a} ne f = first-refused behind a (group_refusals g) (inr (few, f)) ne

    module _ {status : ℕ} (e : status ≡ 0) (f : Accept g status) where
      none-group : None (group_refusals g)
      none-group = (few, accept-unrefused g (subst (Accept g) e f))

      pub table-long : table_bytes < length t → Repcheck g t 20
      table-long h = first-behind behind 20 (group_refusals g) none-group (inl (h, refl))

      pub table-short : {a : ℕ} → length t ≤ table_bytes → Replied g t a → Repcheck g t a
      table-short {a} h j = first-behind behind a (group_refusals g) none-group (inr (λ m. omega arith, j.answered))
