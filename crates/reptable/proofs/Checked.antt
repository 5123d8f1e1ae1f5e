-- What the program prints for a group text is the text of a table that passes: beside the same group text, the program
-- repcheck answers 0 to it.
--
--   printed-says          what is printed says the table of the presentation
--   printed-read          the words that repcheck lends are enough for it
--   printed-tests         none of 21 to 26 applies to it
--   printed-zero          nor does any refusal, of a text that is not too long
--   printed-passes        so any answer of repcheck to it is 0
use mathlib.Core.Path.{◌≡◌, refl, sym, ap, ◌∙◌, subst}
use mathlib.Core.List.{List, ◌++◌}
use Prim.Native.Nat.{ℕ, ◌*◌, ◌-◌, ◌≤◌, ◌<◌}
use native.Mathlib.Nat.{div-add-mod'}
use native.Mathlib.Omega.{arith}
use lib.ListN.{length}
use Rattle.definitions.specs.Text.{Bytes}
use Rattle.definitions.specs.Presentation.{line_words, order, Relations, Says, presentation}
use Rattle.definitions.specs.Table.{table_text}
use Rattle.definitions.specs.Steps.{table_of}
use Rattle.definitions.specs.Answers.{First, presentation_refusals, build_refusals, table_refusals, newlines, TableSays}
use Rattle.definitions.specs.Programs.{lent_words, group_bytes, table_bytes, reptable_refusals, Reptable, group_refusals, table_file_refusals, said_refusals, Repcheck}
use Rattle.definitions.proofs.Refusals.{None, first-none, none_first, first-behind, first_rest, Unrefused}
use Rattle.definitions.proofs.Unique.{repcheck-unique}
use Rattle.clifford.proofs.Calls.{passes-check}
use Rattle.table_text.proofs.Pieces.{newlines-table, table_text-pieces}
use Rattle.table_text.proofs.Calls.{writable-parts, said-first}
use Rattle.reptable.proofs.Finished.{accepts, table-writable, table-lent}

module _ {g : Bytes} (f : First (build_refusals g lent_words) 0) (R : Relations) (s : Says g R) where
  abbrev T : List ℕ
  T = table_of (presentation R)

  printed-says : TableSays (table_text (table_of (presentation R))) (table_of (presentation R))
  printed-says = record { formed = table-writable f R s; written = refl }

  -- eight words for each line below that of the names
  printed-read : line_words * (newlines (table_text (table_of (presentation R))) - 1) ≤ lent_words
  unfolding line_words
  printed-read =
      let whole = (writable-parts T (table-writable f R s)).0 in
      let lines = ap newlines (table_text-pieces T whole) ∙ newlines-table T whole in
      omega (arith, lines, table-lent f R s, div-add-mod' (length T) 8)

  printed-tests : First (said_refusals g (table_text (table_of (presentation R)))) 0
  printed-tests =
      let U : Unrefused g = accepts f in
      said-first printed-says (first_rest (table_refusals g (λ P. order P P.n) T) 0 (presentation_refusals g) U (passes-check g U R s))

  printed-zero : ¬ (group_bytes < length g) → length (table_text (table_of (presentation R))) ≤ table_bytes → Repcheck g (table_text (table_of (presentation R))) 0
  printed-zero few short =
      let t = table_text T in
      let group : None (group_refusals g) = (few, accepts f) in
      let long : ¬ (table_bytes < length t) = λ h. omega arith in
      let lack : ¬ (lent_words < line_words * (newlines t - 1)) = λ h. omega (arith, printed-read) in
      let table : None (table_file_refusals t) = (long, (lack, ((λ h. h (T, printed-says)), tt))) in
      first-behind (table_file_refusals t ++ said_refusals g t) 0 (group_refusals g) group
      (first-behind (said_refusals g t) 0 (table_file_refusals t) table printed-tests)

-- for a table text of no more bytes than repcheck reads
pub printed-passes : (g out : Bytes) → Reptable g 0 out → length out ≤ table_bytes → (a : ℕ) → Repcheck g out a → a ≡ 0
printed-passes g out printed short a c =
    let (few, built) = first-none (reptable_refusals g) refl printed.answered in
    let (R, s, e) = printed.printed refl in
    let zero = printed-zero (none_first (build_refusals g lent_words) built) R s few (subst (λ t. length t ≤ table_bytes) e short) in
    repcheck-unique g out a 0 c (subst (λ t. Repcheck g t 0) (sym e) zero)
