-- Laws of what a table text says, and of the two calls one after the other.
--
--   writable-parts, writable-whole     what `writable` asks
--   over-within, over-take    what was written over a buffer stands at its start
--   says-lines, says-text     a table text says whole lines; it is the names line and the words
--   said-first                the tests of the words that a table text says, as tests of the text
--   written_read, write-then-read, read-then-write       there and back
use mathlib.Core.Path.{◌≡◌, refl, sym, ap, ap₂, ◌∙◌, subst}
use mathlib.Core.Bool.{Bool, true, not-eq-not}
use mathlib.Core.List.{List, ◌++◌}
use Prim.Native.Nat.{ℕ, ◌*◌, ◌%◌, ◌≤◌}
use native.Mathlib.Nat.{div-add-mod'}
use native.Mathlib.Omega.{arith}
use lib.ListN.{length, take, drop, length-append}
use lib.Seq.{take-append_seam}
use lib.Dec.{eqb}
use borrow.Author.Tests.{eqb-true, eq-eqb}
use Rattle.definitions.specs.Text.{Bytes, small}
use Rattle.definitions.specs.Presentation.{line_words, Presentation, order, presentation}
use Rattle.definitions.specs.Table.{line_count, table_text, writable}
use Rattle.definitions.specs.Answers.{First, says, judgements, table_refusals, over, TableSays, write_refusals, ReadTable, WriteTable}
use Rattle.definitions.specs.Programs.{said_test, said_refusals}
use Rattle.definitions.proofs.Refusals.{first-none, first-same}
use Rattle.definitions.proofs.Unique.{table-says-unique}
use Rattle.numbers.proofs.Bools.{and_left, and_right, and_intro}
use Rattle.table_text.specs.Pieces.{pieces}
use Rattle.table_text.proofs.Pieces.{names, table_text-pieces}

-- ---- Buffers that were written over

pub over-within : (before s : List ℕ) → length s ≤ length (over before s)
unfolding over
over-within before s = omega (arith, length-append s (drop (length s) before))

pub over-take : (before s : List ℕ) → take (length s) (over before s) ≡ s
unfolding over
over-take before s = take-append_seam s (drop (length s) before)

-- ---- Texts in the form

pub writable-parts : (T : List ℕ) → writable T ≡ true → (length T % line_words ≡ 0) × (small T ≡ true)
unfolding writable
writable-parts T h =
    (eqb-true (length T % line_words) 0 (and_left (eqb (length T % line_words) 0) (small T) h), and_right (eqb (length T % line_words) 0) (small T) h)

pub writable-whole : (T : List ℕ) → length T % line_words ≡ 0 → small T ≡ true → writable T ≡ true
unfolding writable
writable-whole T a b = and_intro (eqb (length T % line_words) 0) (small T) (eq-eqb (length T % line_words) 0 a) b

pub says-lines : {t : Bytes} {T : List ℕ} → TableSays t T → 8 * line_count T ≡ length T
unfolding line_count line_words
says-lines {T = T} h = omega (arith, div-add-mod' (length T) 8, (writable-parts T h.formed).0)

-- the check of the words asks no other tests than the program repcheck does of the text
pub said-first : {g t : Bytes} {T : List ℕ} {a : ℕ} → TableSays t T → First (table_refusals g (λ P. order P P.n) T) a → First (said_refusals g t) a
said-first {g} {t} {T} {a} h f = first-same (λ q. Tests q T) (said_test g t) (λ q x. (T, h, x)) from a judgements f
  where
    Tests : (Presentation → ℕ → List ℕ → Bool) → List ℕ → Type 0
    Tests q T = says g (λ R. let P = presentation R in q P (order P P.n) T ≡ true)

    from : (q : Presentation → ℕ → List ℕ → Bool) → said_test g t q → Tests q T
    from q (T', h', x) = subst (Tests q) (table-says-unique t T' T h' h) x

-- the text is the names line and the words
pub says-text : {t : Bytes} {T : List ℕ} → TableSays t T → t ≡ names ++ pieces 0 T
says-text {t} {T} h = h.written ∙ table_text-pieces T (writable-parts T h.formed).0

-- ---- There and back

-- what is written of a table says that table
pub written_read : (T : List ℕ) (before : Bytes) (k : ℕ) (after : Bytes) → WriteTable T before 0 k after → TableSays (take k after) T
written_read T before k after h =
    let f = h.leaves.finished refl in
    record {
      formed = not-eq-not.0 (first-none (write_refusals T (length before)) refl h.answered).0;
      written = ap₂ take f.0 f.1 ∙ over-take before (table_text T);
    }

-- the words of a table that was written are read back, whatever buffer they are read into
pub write-then-read : (T : List ℕ) (out : Bytes) (k : ℕ) (written : Bytes) (before : List ℕ) (m : ℕ) (after : List ℕ)
    → WriteTable T out 0 k written → ReadTable (take k written) before 0 m after → (m ≡ line_count T) × (after ≡ over before T)
write-then-read T out k written before m after w r =
    let f = r.leaves.finished refl in
    let q : f.0 ≡ T = table-says-unique (take k written) f.0 T f.1 (written_read T out k written w) in
    (f.2 ∙ ap line_count q, f.3 ∙ ap (over before) q)

-- the text of a table that was read is written back from the words that it was read into
pub read-then-write : (t : Bytes) (before : List ℕ) (m : ℕ) (after : List ℕ) (out : Bytes) (k : ℕ) (written : Bytes)
    → ReadTable t before 0 m after → WriteTable (take (line_words * m) after) out 0 k written → (k ≡ length t) × (written ≡ over out t)
unfolding over line_words
read-then-write t before m after out k written r w =
    let f = r.leaves.finished refl in
    let T = f.0 in
    let n : 8 * m ≡ length T = omega (arith, f.2, says-lines f.1) in
    let q : take (8 * m) after ≡ T = ap₂ take n f.3 ∙ over-take before T in
    let e : table_text (take (8 * m) after) ≡ t = ap table_text q ∙ sym f.1.written in
    let g = w.leaves.finished refl in
    (g.0 ∙ ap length e, g.1 ∙ ap (λ (x : Bytes). x ++ drop (length x) out) e)
