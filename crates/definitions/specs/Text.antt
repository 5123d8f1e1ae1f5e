-- The text form that presentation text and table text share ("Presentation text" in the specification): a line of names,
-- then lines of decimal values, one space between, each line ended by byte 10. A text is told by how it is written out:
-- it is in the form exactly if it is the rendering of some rows of values, and no parser is defined.
--
--   largest           the largest value, nine digits
--   decimal v         the bytes of a value
--   spaced fields     the fields with one space between
--   line fields       the same, ended by byte 10
--   render names rows the text of a names line and rows of values
--   small row         every value of a row is at most `largest`
use Rattle.std.specs.Prelude.{ℕ, zero, suc, ◌+◌, ◌/◌, ◌%◌, Bool, cond, ltb, leb}
use mathlib.Core.List.{List, [], ◌∷◌, ◌++◌, map, flat_map}
use Rattle.definitions.specs.Lists.{all}

abbrev pub Bytes : Type 0
Bytes = List ℕ

unfoldable pub largest : ℕ
largest = 999999999

-- the digits of v, the highest first, by at most f of them; v itself is digits enough
unfoldable pub digits : ℕ → ℕ → Bytes
digits zero v = []
digits (suc f) v = cond (ltb v 10) ((48 + v) ∷ []) (digits f (v / 10) ++ ((48 + v % 10) ∷ []))

-- no leading zero, and 0 itself is the one digit 0
unfoldable pub decimal : ℕ → Bytes
decimal v = digits (suc v) v

unfoldable pub spaced : List Bytes → Bytes
spaced [] = []
spaced (x ∷ []) = x
spaced (x ∷ y ∷ rest) = x ++ 32 ∷ spaced (y ∷ rest)

unfoldable pub line : List Bytes → Bytes
line fields = spaced fields ++ (10 ∷ [])

unfoldable pub value_line : List ℕ → Bytes
value_line row = line (map decimal row)

unfoldable pub render : List Bytes → List (List ℕ) → Bytes
render names rows = line names ++ flat_map value_line rows

unfoldable pub small : List ℕ → Bool
small row = all (λ v. leb v largest) row
