-- Laws of writing table text word by word.
--
--   pieces-turn, pieces-front, turn-length, turn-room     the first k words, and one more
--   small_is                every word has at most nine digits, as the library tests it
--   MeasuredText, measured-none, measured-more, measured-over, measured-all     the length of the text
--   WrittenTo, written_none, written-room, written-more, written_all     the words written
use mathlib.Core.Path.{◌≡◌, sym, ap, ◌∙◌}
use mathlib.Core.Bool.{Bool, false}
use mathlib.Core.List.{List, [], ◌∷◌, ◌++◌, append_assoc}
use Prim.Native.Nat.{ℕ, ◌+◌, ◌<◌, ◌≤◌}
use native.Mathlib.Numerals.{add-one}
use native.Mathlib.Omega.{arith}
use lib.ListN.{length, get_or, take, drop, length-append, take-append-drop}
use lib.Seq.{take-suc, take_all, length-take-le}
use lib.Dec.{leb}
use borrow.Author.Tests.{lt-leb, le-leb}
use Rattle.std.specs.Prelude.{◌↔◌, IsTrue, EachIndex, slice_index}
use Rattle.numbers.proofs.Bools.{same_test}
use Rattle.numbers.proofs.Lists.{all-intro}
use Rattle.definitions.specs.Text.{largest, decimal, small}
use Rattle.text.specs.Writing.{Wrote}
use Rattle.text.proofs.Writing.{wrote_none, wrote-more, wrote_as, wrote-length}
use Rattle.text.proofs.Trail.{small_at}
use Rattle.table_text.specs.Pieces.{separator_of, pieces}
use Rattle.table_text.proofs.Pieces.{pieces-nil, pieces-one, pieces-append}

-- ---- The first k words

pub pieces-turn : (T : List ℕ) (k : ℕ) → k < length T
    → pieces 0 (take (k + 1) T) ≡ pieces 0 (take k T) ++ (decimal (get_or T k 0) ++ (separator_of k ∷ []))
pieces-turn T k l =
    ap (λ (m : ℕ). pieces 0 (take m T)) (add-one k)
    ∙ ap (pieces 0) (take-suc T k 0 l)
    ∙ pieces-one (take k T) (get_or T k 0)
    ∙ ap (λ (m : ℕ). pieces 0 (take k T) ++ (decimal (get_or T k 0) ++ (separator_of m ∷ []))) (length-take-le k T (omega arith))

-- the text of the first k words is no longer than that of all
pub pieces-front : (T : List ℕ) (k : ℕ) → length (pieces 0 (take k T)) ≤ length (pieces 0 T)
pieces-front T k =
    omega (arith, simp length-append at (ap length (sym (ap (pieces 0) (take-append-drop k T)) ∙ pieces-append 0 (take k T) (drop k T))))

pub turn-length : (T : List ℕ) (k : ℕ) → k < length T
    → length (pieces 0 (take (k + 1) T)) ≡ length (pieces 0 (take k T)) + length (decimal (get_or T k 0)) + 1
turn-length T k l = ap length (pieces-turn T k l) ∙ simp length-append (omega arith)

pub turn-room : (T : List ℕ) (k : ℕ) → k < length T → length (pieces 0 (take k T)) + length (decimal (get_or T k 0)) + 1 ≤ length (pieces 0 T)
turn-room T k l = omega (arith, turn-length T k l, pieces-front T (k + 1))

-- ---- Words of at most nine digits

pub small_is : (T : List ℕ) {r : Bool} → IsTrue r ↔ EachIndex T (λ k. slice_index T k ≤ 999999999) → r ≡ small T
unfolding largest small
small_is T h = same_test _ _ (λ e. all-intro (λ x. leb x largest) T 0 (λ k l. le-leb (get_or T k 0) largest (h.0 e k l))) (λ e. h.1 (λ k l. small_at T k l e))

-- ---- The length of the text

pub record MeasuredText (T : List ℕ) (first k total : ℕ) : Type 0 where
  pub is : total ≡ first + length (pieces 0 (take k T))
  pub few : k ≤ length T

module _ {T : List ℕ} {first : ℕ} where
  pub measured-none : MeasuredText T first 0 first
  measured-none = record { is = omega (arith, ap length (pieces-nil 0)); few = omega arith }

  module _ {k total : ℕ} (h : MeasuredText T first k total) where
    pub measured-more : {w : ℕ} → k < length T → w ≡ length (decimal (get_or T k 0)) → MeasuredText T first (k + 1) (total + (w + 1))
    measured-more l q = record { is = omega (arith, h.is, turn-length T k l); few = omega arith }

    pub measured-over : (have : ℕ) → have < total → false ≡ leb (first + length (pieces 0 T)) have
    measured-over have l = sym (lt-leb (first + length (pieces 0 T)) have (omega (arith, h.is, pieces-front T k)))

    pub measured-all : (have : ℕ) → length T ≤ k → leb total have ≡ leb (first + length (pieces 0 T)) have
    measured-all have l = ap (λ (n : ℕ). leb n have) (h.is ∙ ap (λ (xs : List ℕ). first + length (pieces 0 xs)) (take_all k T l))

-- ---- The words written

pub record WrittenTo (T : List ℕ) (out : List ℕ) (at k : ℕ) (now : List ℕ) (next : ℕ) : Type 0 where
  pub wrote : Wrote out at (pieces 0 (take k T)) now next
  pub room : at + length (pieces 0 T) ≤ length out
  pub few : k ≤ length T

module _ {T out : List ℕ} {at : ℕ} where
  pub written_none : at + length (pieces 0 T) ≤ length out → WrittenTo T out at 0 out at
  written_none l = record { wrote = wrote_as (wrote_none out at (omega arith)) (sym (pieces-nil 0)); room = l; few = omega arith }

  module _ {k : ℕ} {now : List ℕ} {next : ℕ} (h : WrittenTo T out at k now next) where
    -- there is room for a word and its separator
    pub written-room : k < length T → next + length (decimal (get_or T k 0)) + 1 ≤ length now
    written-room l = omega (arith, h.wrote.end, wrote-length h.wrote, turn-room T k l, h.room)

    pub written-more : {mid : List ℕ} {behind : ℕ} {last : List ℕ} {end : ℕ} {b : ℕ} → k < length T → b ≡ separator_of k
        → Wrote now next (decimal (get_or T k 0)) mid behind → Wrote mid behind (b ∷ []) last end → WrittenTo T out at (k + 1) last end
    written-more {b = b} l q v w =
        record {
          wrote =
              wrote_as (wrote-more (wrote-more h.wrote v) w)
              (append_assoc (pieces 0 (take k T)) (decimal (get_or T k 0)) (b ∷ [])
              ∙ ap (λ (x : ℕ). pieces 0 (take k T) ++ (decimal (get_or T k 0) ++ (x ∷ []))) q
              ∙ sym (pieces-turn T k l));
          room = h.room;
          few = omega arith;
        }

    pub written_all : length T ≤ k → Wrote out at (pieces 0 T) now next
    written_all l = wrote_as h.wrote (ap (pieces 0) (take_all k T l))
