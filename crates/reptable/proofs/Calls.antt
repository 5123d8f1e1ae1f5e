-- From what build and write_table answer and leave to what the program makes of a text.
--
--   finished            a build that is not refused
--   lines-within        the words of a finished build stand within the buffer
--   refused             a refused build
--   text_is, text-within     what a finished write_table leaves
--   written             a finished build, whose words are always written
--   file-long, file-short     the bytes of a file: too many, and not too many
--   reply-table, reply-refusal     what is printed: the text of the table, and that of the answer of a refusal
use mathlib.Core.Path.{◌≡◌, refl, sym, ap, ap₂, ◌∙◌, subst}
use mathlib.Core.Logic.{inl, inr}
use mathlib.Core.List.{List}
use Prim.Native.Nat.{ℕ, ◌*◌, ◌≤◌, ◌<◌}
use native.Mathlib.Nat.{div-add-mod'}
use native.Mathlib.Omega.{arith}
use lib.ListN.{length, take}
use Rattle.std.specs.Prelude.{Result, Ok}
use Rattle.results.specs.declared.Refusal.{Refusal}
use Rattle.results.specs.Numbers.{answer, counted}
use Rattle.io.specs.Counts.{IsPrefixLen}
use Rattle.io.proofs.Counting.{prefix_len_of_le}
use Rattle.definitions.specs.Text.{Bytes}
use Rattle.definitions.specs.Presentation.{line_words, presentation}
use Rattle.definitions.specs.Table.{line_count, table_text}
use Rattle.definitions.specs.Steps.{table_of}
use Rattle.definitions.specs.Answers.{First, build_refusals, Build, WriteTable}
use Rattle.clifford.proofs.Calls.{left_behind}
use Rattle.table_text.proofs.Calls.{over-within, over-take}
use Rattle.definitions.specs.Programs.{lent_words, group_bytes, answer_text, reptable_refusals, Reptable}
use Rattle.reptable.specs.Tabulated.{room, Tabulated}
use Rattle.reptable.proofs.Finished.{accepts, never-refused}

-- a build that is finished
pub finished : {t : Bytes} {before after : List ℕ} {r : Result ℕ Refusal} {lines : ℕ} → r ≡ Ok lines → Build t before (answer r) (counted r) after → Build t before 0 lines after
finished {t} {before} {after} is B = subst (λ (x : Result ℕ Refusal). Build t before (answer x) (counted x) after) is B

pub lines-within : {t : Bytes} {before after : List ℕ} {answer count : ℕ} → answer ≡ 0 → Build t before answer count after → 8 * count ≤ length after
unfolding line_count line_words
lines-within {before = before} e B =
    let (R, s, (k, w)) = B.leaves.finished e in
    omega (arith, k, ap length w, over-within before (table_of (presentation R)), div-add-mod' (length (table_of (presentation R))) 8)

pub refused :
    {t : Bytes} {before after : List ℕ} {answer count : ℕ} (out : Bytes) → length before ≡ lent_words → ¬ (answer ≡ 0) → Build t before answer count after
    → Tabulated (build_refusals t lent_words) t answer (take count out) × IsPrefixLen count out
refused {t} {answer = answer} {count} out l ne B =
    let z : count ≡ 0 = (B.leaves.refused ne).0 in
    (record { answered = subst (λ k. First (build_refusals t k) answer) l B.answered; written = λ e. absurd (ne e) }, prefix_len_of_le count out (omega arith))

-- ---- A finished build

-- what a finished write_table leaves: the text at the start of the bytes
text_is : {T : List ℕ} {out after : Bytes} {answer count : ℕ} → WriteTable T out answer count after → answer ≡ 0 → take count after ≡ table_text T
text_is {T} {out} W e = let (k, w) = W.leaves.finished e in ap₂ take k w ∙ over-take out (table_text T)

text-within : {T : List ℕ} {out after : Bytes} {answer count : ℕ} → WriteTable T out answer count after → answer ≡ 0 → count ≤ length after
text-within {T} {out} W e = let (k, w) = W.leaves.finished e in omega (arith, k, ap length w, over-within out (table_text T))

pub written :
    {t : Bytes} {before after : List ℕ} {status lines answer count : ℕ} {out text : Bytes} → length before ≡ lent_words → room ≤ length out → status ≡ 0
    → Build t before status lines after → WriteTable (take (8 * lines) after) out answer count text → Tabulated (build_refusals t lent_words) t answer (take count text) × IsPrefixLen count text
unfolding line_words
written {t} {before} {after} {status} {lines} {answer} {count} {out} {text} l b z B W =
    let (R, s, (k, w)) = B.leaves.finished z in
    let f : First (build_refusals t lent_words) 0 = subst (First (build_refusals t lent_words)) z (subst (λ h. First (build_refusals t h) status) l B.answered) in
    let q : take (8 * lines) after ≡ table_of (presentation R) = ap₂ (λ (n : ℕ) (v : List ℕ). take (8 * n) v) k w ∙ left_behind t (accepts f) R s before in
    let X : WriteTable (table_of (presentation R)) out answer count text = subst (λ T. WriteTable T out answer count text) q W in
    let e : answer ≡ 0 = never-refused f R s b X.answered in
    (record { answered = subst (First (build_refusals t lent_words)) (sym e) f; written = λ a. (R, s, text_is X e) }, prefix_len_of_le count text (text-within X e))

-- ---- Files

pub file-long : {t : Bytes} (out : Bytes) → group_bytes < length t → Tabulated (reptable_refusals t) t 11 (take 0 out) × IsPrefixLen 0 out
file-long out l = (record { answered = inl (l, refl); written = λ e. absurd (omega (arith, e)) }, prefix_len_of_le 0 out (omega arith))

pub file-short :
    {t o : Bytes} {answer : ℕ} → length t ≤ group_bytes → Tabulated (build_refusals t lent_words) t answer o → Tabulated (reptable_refusals t) t answer o
file-short l T = record { answered = inr (λ h. omega arith, T.answered); written = T.written }

pub reply-table : {t o : Bytes} {answer : ℕ} → answer ≡ 0 → Tabulated (reptable_refusals t) t answer o → Reptable t answer o
reply-table e T = record { answered = T.answered; printed = T.written; refused = λ ne. absurd (ne e) }

pub reply-refusal :
    {t o out : Bytes} {answer : ℕ} → ¬ (answer ≡ 0) → Tabulated (reptable_refusals t) t answer o → out ≡ answer_text answer → Reptable t answer out
reply-refusal ne T q = record { answered = T.answered; printed = λ e. absurd (ne e); refused = λ _. q }
