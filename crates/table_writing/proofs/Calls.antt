-- The answers of the writer.
--
--   write-room                room for the text
--   write-part, write-large, write-short, write_done     the answers
use mathlib.Core.Path.{◌≡◌, refl, sym, ap, ◌∙◌}
use mathlib.Core.Logic.{inl, inr}
use mathlib.Core.Bool.{Bool, true, false, true≢false, not-eq-not}
use mathlib.Core.List.{List, ◌++◌}
use Prim.Native.Nat.{ℕ, ◌+◌, ◌%◌, ◌≤◌}
use native.Mathlib.Omega.{arith}
use lib.ListN.{length, drop}
use lib.Dec.{leb}
use borrow.Author.Tests.{leb-true, leb-false}
use Rattle.definitions.specs.Text.{Bytes, small}
use Rattle.definitions.specs.Presentation.{line_words}
use Rattle.definitions.specs.Table.{table_text, writable}
use Rattle.definitions.specs.Answers.{over, WriteTable}
use Rattle.definitions.proofs.Refusals.{leaves-refused, leaves-finished}
use Rattle.text.specs.Writing.{put, Wrote}
use Rattle.text.proofs.Writing.{wrote-more, wrote_as}
use Rattle.table_text.specs.Pieces.{pieces}
use Rattle.table_text.proofs.Pieces.{names, table_text-pieces}
use Rattle.table_text.proofs.Calls.{writable-parts, writable-whole}

pub write-room : (T : List ℕ) (out : Bytes) {b : Bool} → b ≡ leb (34 + length (pieces 0 T)) (length out) → b ≡ true → 34 + length (pieces 0 T) ≤ length out
write-room T out r q = leb-true (34 + length (pieces 0 T)) (length out) (sym r ∙ q)

module _ (T : List ℕ) (before : Bytes) where
  refuse-21 : writable T ≡ false → WriteTable T before 21 0 before
  refuse-21 h = record { answered = inl (h, refl); leaves = leaves-refused (λ q. omega arith) }

  pub write-part : (length T % 8 ≡ 0 → ⊥) → WriteTable T before 21 0 before
  unfolding line_words
  write-part n = refuse-21 (not-eq-not.0 (λ q. n (writable-parts T q).0))

  pub write-large : small T ≡ false → WriteTable T before 21 0 before
  write-large h = refuse-21 (not-eq-not.0 (λ q. true≢false (sym (writable-parts T q).1 ∙ h)))

  module _ (whole : length T % 8 ≡ 0) (few : small T ≡ true) where
    text_is : table_text T ≡ names ++ pieces 0 T
    unfolding line_words
    text_is = table_text-pieces T whole

    can : ¬ (writable T ≡ false)
    unfolding line_words
    can h = true≢false (sym (writable-whole T whole few) ∙ h)

    pub write-short : leb (34 + length (pieces 0 T)) (length before) ≡ false → WriteTable T before 16 0 before
    write-short h = record {
      answered = inr (can, inl (omega (arith, ap length text_is, leb-false (34 + length (pieces 0 T)) (length before) h), refl));
      leaves = leaves-refused (λ q. omega arith);
    }

    pub write_done : {mid : List ℕ} {next : ℕ} {after : List ℕ} {end : ℕ} → Wrote before 0 names mid next → Wrote mid next (pieces 0 T) after end
        → WriteTable T before 0 end after
    unfolding over put
    write_done {after = after} {end = end} a b =
        let w : Wrote before 0 (table_text T) after end = wrote_as (wrote-more a b) (sym text_is) in
        let e : 0 + length (table_text T) ≡ length (table_text T) = omega arith in
        record {
          answered = inr (can, inr ((λ l. omega (arith, w.room)), refl));
          leaves = leaves-finished (w.end ∙ e, w.content ∙ ap (λ (m : ℕ). table_text T ++ drop m before) e);
        }
