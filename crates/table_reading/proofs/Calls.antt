-- The answers of the reader.
--
--   says-starts, says-form, form-says  a table text: its names line, and its words to the end
--   starts-within             a text that starts with the names line is as long as that
--   Short, Long, short, long  whether the words are room for the lines, by what `enough` answers
--   read-room                 the words find room
--   read_short, read-unstarted, read-unformed, read_done     the answers
use mathlib.Core.Path.{◌≡◌, refl, sym, ap, ◌∙◌}
use mathlib.Core.Logic.{inl, inr}
use mathlib.Core.Bool.{Bool, true, false, not}
use mathlib.Core.List.{List, ◌++◌}
use Prim.Native.Nat.{ℕ, ◌*◌, ◌-◌, ◌/◌, ◌<◌, ◌≤◌}
use native.Mathlib.Nat.{div-add-mod'}
use native.Mathlib.Omega.{arith}
use lib.ListN.{length, drop}
use lib.Dec.{ltb}
use borrow.Author.Tests.{ltb-true, ltb-false, not-true, not-false}
use Rattle.definitions.specs.Text.{Bytes}
use Rattle.definitions.specs.Presentation.{line_words}
use Rattle.definitions.specs.Table.{line_count}
use Rattle.definitions.specs.Answers.{newlines, TableSays, ReadTable}
use Rattle.definitions.proofs.Refusals.{leaves-refused, leaves-finished}
use Rattle.text.specs.Reading.{StartsAt}
use Rattle.table_text.specs.Pieces.{pieces}
use Rattle.table_text.proofs.Pieces.{names, table_text-pieces, newlines-table}
use Rattle.table_reading.specs.Forms.{FormLine, Room, Filled}
use Rattle.table_text.proofs.Calls.{writable-parts, writable-whole, says-text}

pub says-starts : {t : Bytes} {T : List ℕ} → TableSays t T → StartsAt t 0 names
says-starts {t} {T} h = (pieces 0 T, says-text h)

pub says-form : {t : Bytes} {T : List ℕ} → TableSays t T → FormLine t 34 T
says-form {t} {T} h =
    record { text = ap (drop 34) (says-text h); whole = (writable-parts T h.formed).0; small_all = (writable-parts T h.formed).1 }

form-text : {t : Bytes} {T : List ℕ} → StartsAt t 0 names → FormLine t 34 T → t ≡ names ++ pieces 0 T
form-text {t} {T} s f =
    let q : t ≡ names ++ s.0 = s.1 in
    q ∙ ap (λ (zs : Bytes). names ++ zs) (sym (ap (drop 34) q) ∙ f.text)

pub form-says : {t : Bytes} {T : List ℕ} → StartsAt t 0 names → FormLine t 34 T → TableSays t T
form-says {t} {T} s f =
    record { formed = writable-whole T f.whole f.small_all; written = form-text s f ∙ sym (table_text-pieces T f.whole) }

pub starts-within : {t : Bytes} → StartsAt t 0 names → 34 ≤ length t
starts-within {t} s = let q : t ≡ names ++ s.0 = s.1 in omega (arith, ap length q)

-- ---- Room

-- the words are fewer than the lines want, or not
pub record Short (t : Bytes) (have : ℕ) : Type 0 where
  pub less : have < line_words * (newlines t - 1)

pub record Long (t : Bytes) (have : ℕ) : Type 0 where
  pub least : line_words * (newlines t - 1) ≤ have

module _ {t : Bytes} {have lines : ℕ} {b : Bool} (n : lines ≡ newlines t) (r : b ≡ not (ltb have (8 * (lines - 1)))) where
  pub short : b ≡ false → Short t have
  unfolding line_words
  short q = record { less = omega (arith, n, ltb-true have (8 * (lines - 1)) (not-false _ (sym r ∙ q))) }

  pub long : b ≡ true → Long t have
  unfolding line_words
  long q = record { least = omega (arith, n, ltb-false have (8 * (lines - 1)) (not-true _ (sym r ∙ q))) }

pub read-room : {t : Bytes} {have : ℕ} → StartsAt t 0 names → (T : List ℕ) × FormLine t 34 T → Long t have → Room t 34 have
unfolding line_words
read-room s (T, f) l = record {
  table = T;
  lines = f;
  room = omega (arith, ap newlines (form-text s f), newlines-table T f.whole, l.least, div-add-mod' (length T) 8, f.whole);
  within = starts-within s;
}

-- ---- The answers of the reader

module _ (t : Bytes) (before : List ℕ) where
  pub read_short : Short t (length before) → ReadTable t before 16 0 before
  read_short l = record { answered = inl (l.less, refl); leaves = leaves-refused (λ q. omega arith) }

  module _ (l : Long t (length before)) where
    room : ¬ (length before < line_words * (newlines t - 1))
    room m = omega (arith, l.least)

    other : ¬ ((T : List ℕ) × TableSays t T) → ReadTable t before 20 0 before
    other h = record { answered = inr (room, inl (h, refl)); leaves = leaves-refused (λ q. omega arith) }

    pub read-unstarted : (StartsAt t 0 names → ⊥) → ReadTable t before 20 0 before
    read-unstarted h = other (λ s. h (says-starts s.1))

    pub read-unformed : ((T : List ℕ) → FormLine t 34 T → ⊥) → ReadTable t before 20 0 before
    read-unformed h = other (λ s. h s.0 (says-form s.1))

    pub read_done : StartsAt t 0 names → {after : List ℕ} {k : ℕ} → Filled t 34 before after k → ReadTable t before 0 (k / 8) after
    unfolding line_count line_words
    read_done s f =
        let u = form-says s f.lines in
        record {
          answered = inr (room, inr ((λ n. n (f.table, u)), refl));
          leaves = leaves-finished (f.table, u, ap (λ (m : ℕ). m / 8) f.count, f.stored);
        }
