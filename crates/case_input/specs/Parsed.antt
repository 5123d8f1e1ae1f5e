-- Words in bytes: their decimal digits, and a space or a line's end behind each.
--
--   is_digit, ends          a byte that is a digit, and one that ends a word
--   with_digit w b              a word of 32 bits with one digit more
--   with_byte ws k b        words, with a byte added to word k
--   word_of s i             the number of the word that byte i stands in
--   parsed_to s ws i        words, with the first i bytes of s added
--   parsed s ws            words, with all of them added
use Rattle.std.specs.Prelude.{Bool, ◌&&◌, ◌||◌, cond, List, ℕ, zero, suc, ◌+◌, ◌*◌, ◌%◌, length, get_or, set, eqb, leb}

abbrev pub is_digit : ℕ → Bool
is_digit b = leb 48 b && leb b 57

abbrev pub ends : ℕ → Bool
ends b = eqb b 32 || eqb b 10

abbrev pub with_digit : ℕ → ℕ → ℕ
with_digit w b = (w * 10 + b % 16) % 4294967296

-- a word beyond the last is not kept
unfoldable pub with_byte : List ℕ → ℕ → ℕ → List ℕ
with_byte ws k b = cond (is_digit b) (set ws k (with_digit (get_or ws k 0) b)) ws

unfoldable pub word_of : List ℕ → ℕ → ℕ
word_of s zero = 0
word_of s (suc i) = cond (ends (get_or s i 0)) (suc (word_of s i)) (word_of s i)

unfoldable pub parsed_to : List ℕ → List ℕ → ℕ → List ℕ
parsed_to s ws zero = ws
parsed_to s ws (suc i) = with_byte (parsed_to s ws i) (word_of s i) (get_or s i 0)

unfoldable pub parsed : List ℕ → List ℕ → List ℕ
parsed s ws = parsed_to s ws (length s)
