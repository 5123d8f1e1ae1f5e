-- What stands in a text at a position.
--
--   Digit, Ends           a byte that is a digit; bytes that do not go on with one
--   DigitAt               the digit at a position
--   ValueAt, NoValue      behind the bytes `lead` stands a value; none stands there
--   ReadAt                what is read at a position
--   StartsAt              the bytes s stand at a position
--   field_trail, trail     fields, and values, each behind a space
use Rattle.std.specs.Prelude.{◌≡◌, ℕ, ◌+◌, ◌<◌, ◌≤◌, List, [], ◌∷◌, ◌++◌, map, length, get_or, drop, Option, Some, None}
use Rattle.definitions.specs.Text.{Bytes, largest, decimal}

abbrev pub Digit : ℕ → Type 0
Digit b = (48 ≤ b) × (b < 58)

-- bytes that do not go on with a digit: there are none, or the first is another byte
abbrev pub Ends : Bytes → Type 0
Ends r = Digit (get_or r 0 0) → ⊥

-- r is the digit at a position, or none where none stands
pub record DigitAt (t : Bytes) (at : ℕ) (r : Option ℕ) : Type 0 where
  pub stands : (d : ℕ) → r ≡ Some d → (d < 10) × (get_or t at 0 ≡ 48 + d)
  pub fails : r ≡ None → Digit (get_or t at 0) → ⊥

module _ (lead : Bytes) (t : Bytes) (at : ℕ) where
  -- behind the bytes `lead` stands v, and its digits end before `next`
  pub record ValueAt (v next : ℕ) : Type 0 where
    pub text : drop at t ≡ lead ++ decimal v ++ drop next t
    pub small : v ≤ largest
    pub ends : Ends (drop next t)
    pub further : at < next
    pub within : next ≤ length t

  pub record NoValue : Type 0 where
    pub none : (v : ℕ) (r : Bytes) → v ≤ largest → Ends r → drop at t ≡ lead ++ decimal v ++ r → ⊥

  pub record ReadAt (r : Option (ℕ × ℕ)) : Type 0 where
    pub stands : (v next : ℕ) → r ≡ Some (v, next) → ValueAt v next
    pub fails : r ≡ None → NoValue

-- the bytes s stand at a position
abbrev pub StartsAt : Bytes → ℕ → Bytes → Type 0
StartsAt t at s = (r : Bytes) × (drop at t ≡ s ++ r)

-- the fields of a line behind its first, each behind a space; and the same for values
unfoldable pub field_trail : List Bytes → Bytes
field_trail [] = []
field_trail (x ∷ xs) = 32 ∷ x ++ field_trail xs

unfoldable pub trail : List ℕ → Bytes
trail vs = field_trail (map decimal vs)
