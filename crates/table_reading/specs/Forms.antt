-- Words read at positions of a table text.
--
--   TableWordLine, NoTableWord, TableWordAt     word k at a position
--   FormLine, FormAt        whole lines to the end of the text
--   Room, Filled            words that find room, and that were stored
use Rattle.std.specs.Prelude.{◌≡◌, Bool, true, false, List, ◌∷◌, ◌++◌, ℕ, ◌%◌, ◌<◌, ◌≤◌, length, drop, Option, Some, None}
use Rattle.definitions.specs.Text.{Bytes, largest, decimal, small}
use Rattle.definitions.specs.Presentation.{line_words}
use Rattle.definitions.specs.Answers.{over}
use Rattle.table_text.specs.Pieces.{separator_of, pieces}

module _ (t : Bytes) (at k : ℕ) where
  pub record TableWordLine (v next : ℕ) : Type 0 where
    pub text : drop at t ≡ decimal v ++ separator_of k ∷ drop next t
    pub small_one : v ≤ largest
    pub further : at < next
    pub within : next ≤ length t

  pub record NoTableWord : Type 0 where
    pub none : (v : ℕ) (r : Bytes) → v ≤ largest → drop at t ≡ decimal v ++ separator_of k ∷ r → ⊥

  pub record TableWordAt (a : Option (ℕ × ℕ)) : Type 0 where
    pub stands : (v next : ℕ) → a ≡ Some (v, next) → TableWordLine v next
    pub fails : a ≡ None → NoTableWord

-- words of whole lines, with at most nine digits, to the end of a text
pub record FormLine (t : Bytes) (start : ℕ) (T : List ℕ) : Type 0 where
  pub text : drop start t ≡ pieces 0 T
  pub whole : length T % line_words ≡ 0
  pub small_all : small T ≡ true

pub record FormAt (t : Bytes) (start : ℕ) (b : Bool) : Type 0 where
  pub stands : b ≡ true → (T : List ℕ) × FormLine t start T
  pub fails : b ≡ false → (T : List ℕ) → FormLine t start T → ⊥

pub record Room (t : Bytes) (start have : ℕ) : Type 0 where
  pub table : List ℕ
  pub lines : FormLine t start table
  pub room : length table ≤ have
  pub within : start ≤ length t

pub record Filled (t : Bytes) (start : ℕ) (before after : List ℕ) (k : ℕ) : Type 0 where
  pub table : List ℕ
  pub lines : FormLine t start table
  pub stored : after ≡ over before table
  pub count : k ≡ length table
