-- The table of a text whose build is finished can be written, and its text finds room.
--
--   accepts             none of 11 to 15 applies to the text
--   enough              the build wants no more words than are lent
--   table-writable      the table can be written
--   table-lent          its words are no more than are lent
--   table-room          its text is no longer than the room
--   never-refused       so writing it is never refused
use mathlib.Core.Path.{◌≡◌, refl, sym, ap, ◌∙◌, subst}
use mathlib.Core.Bool.{true, true≢false}
use Prim.Native.Nat.{ℕ, ◌≤◌, ◌<◌}
use native.Mathlib.Omega.{arith}
use lib.ListN.{length}
use Rattle.definitions.specs.Text.{Bytes, small}
use Rattle.definitions.specs.Presentation.{line_words, build_words, Relations, Says, presentation}
use Rattle.definitions.specs.Table.{line_count, table_text, writable}
use Rattle.definitions.specs.Steps.{table_of}
use Rattle.definitions.specs.Answers.{First, presentation_refusals, short, build_refusals, write_refusals}
use Rattle.definitions.proofs.Refusals.{first-unique, first-none, none_first, none-back, Unrefused, build-unrefused}
use Rattle.clifford.proofs.Theorem.{accepted, accepted-is, table-words}
use Rattle.clifford.proofs.Calls as said
use Rattle.levels.proofs.Stated as stated
use Rattle.table_text.proofs.Calls.{writable-whole}
use Rattle.definitions.specs.Programs.{lent_words}
use Rattle.reptable.specs.Tabulated.{room}
use Rattle.reptable.proofs.Values.{table-small}
use Rattle.reptable.proofs.Lengths.{text-length}

pub accepts : {t : Bytes} → First (build_refusals t lent_words) 0 → Unrefused t
accepts {t} f = build-unrefused t lent_words f

module _ {t : Bytes} (f : First (build_refusals t lent_words) 0) (R : Relations) (s : Says t R) where
  abbrev U : Unrefused t
  U = accepts f

  -- ---- Its table

  words_small : small (table_of (presentation R)) ≡ true
  words_small =
      subst (λ P. small (table_of P) ≡ true) (accepted-is R s.formed (said.primes t U R s) (said.words-used t U R s) (said.consistent t U R s))
      (table-small _ (stated.small R s.formed (said.primes t U R s) (said.words-used t U R s) (said.consistent t U R s) (said.fits t U R s)))

  pub table-writable : writable (table_of (presentation R)) ≡ true
  unfolding line_words
  table-writable =
      let (k, e) = table-words R s.formed (said.primes t U R s) (said.words-used t U R s) (said.consistent t U R s) in
      writable-whole (table_of (presentation R)) (omega arith) words_small

  enough : build_words (presentation R) ≤ lent_words
  enough =
      let none = none-back (presentation_refusals t) (short t lent_words) (first-none (build_refusals t lent_words) refl f) in
      let few : ¬ (lent_words < build_words (presentation R)) = λ l. none.0 (R, s, l) in
      omega arith

  pub table-lent : length (table_of (presentation R)) ≤ lent_words
  table-lent =
      let group = accepted R s.formed (said.primes t U R s) (said.words-used t U R s) (said.consistent t U R s) in
      let words = stated.room_of R s.formed (said.primes t U R s) (said.words-used t U R s) (said.consistent t U R s) group.C.P.n (omega arith) in
      let all = ap length (stated.table-of R s.formed (said.primes t U R s) (said.words-used t U R s) (said.consistent t U R s)) in
      let most = enough in
      omega arith

  table-room : length (table_text (table_of (presentation R))) ≤ room
  unfolding line_count line_words
  table-room =
      let bytes = text-length (table_of (presentation R)) table-writable in
      let words = table-lent in
      omega arith

  pub never-refused : {have answer : ℕ} → room ≤ have → First (write_refusals (table_of (presentation R)) have) answer → answer ≡ 0
  never-refused {have} {answer} l f =
      first-unique (write_refusals (table_of (presentation R)) have) answer 0 f
      (none_first (write_refusals (table_of (presentation R)) have) (λ h. true≢false (sym table-writable ∙ h), (λ h. omega (arith, table-room), tt)))
