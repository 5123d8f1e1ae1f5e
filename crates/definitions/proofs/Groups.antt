-- Presentations and tables for the rows of `Starred`, in a short notation that computes.
--
--   equal                  two lists are equal, apart from the test of the definitions, which the rows try
--   bytes                  the bytes of a string
--   words                  the numbers in strings, each ended by a byte that is no digit or by the end of its string
--   row, relations         a line of a text; relations by their primes and the words that are not empty
--   table, change          the built table; a table with one word changed
--   s3, v4, c4, q8, c2-cubed, s3-c2      small groups
--   dense12 .. dense54     presentations with long words, since the small groups do not show every slip
--   long-carry             a presentation whose test carries powers past long words
--   twisted, rooted, affine, linked      presentations with their whole tables
--   wide-s3 .. shifted     tables that are refused, or representations that make them so
use Prim.Native.Nat.{ℕ, suc, ◌+◌, ◌*◌, ◌-◌}
use Prim.Native.Char.{code}
use Prim.Native.String.{String}
use mathlib.Core.Bool.{Bool, true, false, ◌&&◌, cond}
use mathlib.Core.List.{List, [], ◌∷◌, ◌++◌, map, flat_map}
use lib.ListN.{length, get_or, set}
use lib.Dec.{eqb, leb}
use Rattle.definitions.specs.Lists.{upto}
use Rattle.definitions.specs.Text.{Bytes}
use Rattle.definitions.specs.Presentation.{line_words, Row, Relations, pairs, presentation}
use Rattle.definitions.specs.Steps.{table_of}

-- ---- Notation

unfoldable pub equal : List ℕ → List ℕ → Bool
equal [] [] = true
equal [] (y ∷ ys) = false
equal (x ∷ xs) [] = false
equal (x ∷ xs) (y ∷ ys) = cond (eqb x y) (equal xs ys) false

unfoldable pub bytes : String → Bytes
bytes String.[] = []
bytes (String.◌∷◌ x t) = code x ∷ bytes t

-- the value of the digits so far is a
unfoldable pub numbers_from : ℕ → String → List ℕ
numbers_from a String.[] = a ∷ []
numbers_from a (String.◌∷◌ x t) = let digit = leb 48 (code x) in cond digit [] (a ∷ []) ++ numbers_from (cond digit (10 * a + (code x - 48)) 0) t

unfoldable pub words : List String → List ℕ
words texts = flat_map (numbers_from 0) texts

abbrev pub row : ℕ → List ℕ → Row
row q w = record { p = q; word = w }

-- the word of the pair (j, i), numbered as in a text, from a list of pairs and their words
unfoldable pub word_in : List (ℕ × ℕ × List ℕ) → ℕ → ℕ → List ℕ
word_in [] j i = []
word_in (g ∷ given) j i = cond (eqb g.0 j && eqb g.1 i) g.2 (word_in given j i)

-- words are given by their first exponents
unfoldable pub relations : List ℕ → List (ℕ × ℕ × List ℕ) → Relations
relations primes given = record {
  n = length primes;
  rows =
      map (λ (q : ℕ × ℕ). row (cond (eqb q.0 q.1) (get_or primes q.0 0) 0)
      (map (λ k. get_or (word_in given (suc q.0) (suc q.1)) k 0) (upto (length primes)))) (pairs (length primes));
}

unfoldable pub table : Relations → List ℕ
table R = table_of (presentation R)

-- word k of line l changed to x
unfoldable pub change : ℕ → ℕ → ℕ → List ℕ → List ℕ
change l k x T = set T (line_words * l + k) x

-- ---- Small groups

-- the primes of S3, with any last line
abbrev pub s3-line : Row → Relations
s3-line r = record { n = 2; rows = row 3 (0 ∷ 0 ∷ []) ∷ row 2 (0 ∷ 0 ∷ []) ∷ r ∷ [] }

-- S3 with the word x of its one commutator
abbrev pub s3-with : ℕ → Relations
s3-with x = s3-line (row 0 (x ∷ 0 ∷ []))

abbrev pub s3 : Relations
s3 = s3-with 1

abbrev pub v4 : Relations
v4 = relations (2 ∷ 2 ∷ []) []

abbrev pub c4 : Relations
c4 = relations (2 ∷ 2 ∷ []) ((2, 2, 1 ∷ []) ∷ [])

abbrev pub q8 : Relations
q8 = relations (2 ∷ 2 ∷ 2 ∷ []) ((2, 2, 1 ∷ []) ∷ (3, 3, 1 ∷ []) ∷ (3, 2, 1 ∷ []) ∷ [])

abbrev pub c2-cubed : Relations
c2-cubed = relations (2 ∷ 2 ∷ 2 ∷ []) []

abbrev pub s3-c2 : Relations
s3-c2 = relations (3 ∷ 2 ∷ 2 ∷ []) ((2, 1, 1 ∷ []) ∷ [])

-- ---- Long words

-- S3 times a group of order 2, whose third generator is not central
abbrev pub dense12 : Relations
dense12 = relations (3 ∷ 2 ∷ 2 ∷ []) ((2, 1, 1 ∷ []) ∷ (3, 1, 1 ∷ []) ∷ (3, 2, 2 ∷ []) ∷ [])

-- the affine group over five elements, on generators with long words
abbrev pub dense20 : Relations
dense20 = relations (5 ∷ 2 ∷ 2 ∷ []) ((2, 1, 3 ∷ []) ∷ (3, 3, 3 ∷ 1 ∷ []) ∷ (3, 1, 2 ∷ []) ∷ (3, 2, 4 ∷ []) ∷ [])

-- order 27 and an inversion: the scalars of an induction are found along 0, 2, 1
abbrev pub dense54 : Relations
dense54 = relations (3 ∷ 3 ∷ 3 ∷ 2 ∷ []) ((3, 2, 1 ∷ []) ∷ (4, 2, 0 ∷ 1 ∷ []) ∷ (4, 3, 2 ∷ 0 ∷ 1 ∷ []) ∷ [])

-- order 126: powers of the upper generators are words that do not commute with what they are carried past
abbrev pub long-carry : Relations
long-carry =
    relations (7 ∷ 2 ∷ 3 ∷ 3 ∷ [])
    ((2, 1, 5 ∷ []) ∷ (3, 3, 3 ∷ 1 ∷ []) ∷ (3, 1, 2 ∷ []) ∷ (3, 2, 1 ∷ []) ∷ (4, 4, 4 ∷ 1 ∷ []) ∷ (4, 1, 2 ∷ []) ∷ (4, 2, 6 ∷ []) ∷ (4, 3, 2 ∷ []) ∷ [])

-- ---- Whole tables

-- order 12: the number l of an intertwiner is found among the extensions of its target, not of its source
abbrev pub twisted : Relations
twisted = relations (3 ∷ 2 ∷ 2 ∷ []) ((2, 2, 2 ∷ []) ∷ (3, 1, 1 ∷ []) ∷ (3, 2, 1 ∷ []) ∷ [])

unfoldable pub twisted-table : List String
twisted-table =
    "1 0 1 1 0 0 0 0,1 0 1 2 0 0 0 0,1 0 1 3 0 0 0 0,1 1 1 1 0 0 0 4,1 1 1 2 1 0 0 0,1 1 1 3 2 0 0 0,1 2 1 1 0 0 0 8,1 2 1 2 2 0 0 0"
    ∷ "1 2 1 3 1 0 0 0,2 0 1 1 0 0 0 0,2 0 1 2 0 0 0 0,2 0 1 3 0 0 0 0,2 1 1 1 0 0 0 0,2 1 1 2 0 0 0 6,2 1 1 3 1 0 0 0,2 2 1 1 1 0 0 4"
    ∷ "2 2 1 2 1 0 0 4,2 2 1 3 5 0 0 0,2 3 1 1 1 0 0 4,2 3 1 2 1 0 0 10,2 3 1 3 4 0 0 0,2 4 1 1 2 0 0 8,2 4 1 2 2 0 0 2,2 4 1 3 3 0 0 0"
    ∷ "2 5 1 1 2 0 0 8,2 5 1 2 2 0 0 8,2 5 1 3 2 0 0 0,3 0 1 1 0 0 0 0,3 0 1 2 0 0 0 0,3 0 1 3 0 0 0 0,3 1 1 1 0 0 0 0,3 1 1 2 0 0 0 0"
    ∷ "3 1 1 3 0 0 0 6,3 2 1 1 1 0 0 0,3 2 1 2 1 0 0 6,3 2 1 3 1 0 0 0,3 3 1 1 1 0 0 0,3 3 1 2 1 0 0 6,3 3 1 3 1 0 0 6,3 4 2 1 2 0 0 4"
    ∷ "3 4 2 1 5 1 1 8,3 4 2 2 2 0 0 4,3 4 2 2 5 1 1 8,3 4 2 3 2 0 1 0,3 4 2 3 5 1 0 0,3 5 2 1 3 0 0 4,3 5 2 1 4 1 1 8,3 5 2 2 3 0 0 10"
    ∷ "3 5 2 2 4 1 1 2,3 5 2 3 3 0 1 0,3 5 2 3 4 1 0 0" ∷ []

-- order 12: the extensions of a target are numbered from where that target starts
abbrev pub rooted : Relations
rooted = relations (3 ∷ 2 ∷ 2 ∷ []) ((3, 3, 0 ∷ 1 ∷ []) ∷ (3, 1, 1 ∷ []) ∷ [])

unfoldable pub rooted-table : List String
rooted-table =
    "1 0 1 1 0 0 0 0,1 0 1 2 0 0 0 0,1 0 1 3 0 0 0 0,1 1 1 1 0 0 0 4,1 1 1 2 1 0 0 0,1 1 1 3 2 0 0 0,1 2 1 1 0 0 0 8,1 2 1 2 2 0 0 0"
    ∷ "1 2 1 3 1 0 0 0,2 0 1 1 0 0 0 0,2 0 1 2 0 0 0 0,2 0 1 3 0 0 0 0,2 1 1 1 0 0 0 0,2 1 1 2 0 0 0 6,2 1 1 3 1 0 0 0,2 2 1 1 1 0 0 4"
    ∷ "2 2 1 2 1 0 0 0,2 2 1 3 4 0 0 0,2 3 1 1 1 0 0 4,2 3 1 2 1 0 0 6,2 3 1 3 5 0 0 0,2 4 1 1 2 0 0 8,2 4 1 2 2 0 0 0,2 4 1 3 2 0 0 0"
    ∷ "2 5 1 1 2 0 0 8,2 5 1 2 2 0 0 6,2 5 1 3 3 0 0 0,3 0 1 1 0 0 0 0,3 0 1 2 0 0 0 0,3 0 1 3 0 0 0 0,3 1 1 1 0 0 0 0,3 1 1 2 0 0 0 0"
    ∷ "3 1 1 3 0 0 0 6,3 2 1 1 1 0 0 0,3 2 1 2 1 0 0 6,3 2 1 3 1 0 0 3,3 3 1 1 1 0 0 0,3 3 1 2 1 0 0 6,3 3 1 3 1 0 0 9,3 4 2 1 2 0 0 4"
    ∷ "3 4 2 1 4 1 1 8,3 4 2 2 2 0 0 0,3 4 2 2 4 1 1 0,3 4 2 3 2 0 1 0,3 4 2 3 4 1 0 0,3 5 2 1 3 0 0 4,3 5 2 1 5 1 1 8,3 5 2 2 3 0 0 6"
    ∷ "3 5 2 2 5 1 1 6,3 5 2 3 3 0 1 0,3 5 2 3 5 1 0 6" ∷ []

-- the affine group over seven elements: the products of the intertwiners along an orbit depend on their order
abbrev pub affine : Relations
affine = relations (7 ∷ 2 ∷ 3 ∷ []) ((2, 1, 5 ∷ []) ∷ (3, 1, 3 ∷ []) ∷ (3, 2, 1 ∷ []) ∷ [])

unfoldable pub affine-table : List String
affine-table =
    "1 0 1 1 0 0 0 0,1 0 1 2 0 0 0 0,1 0 1 3 0 0 0 0,1 1 1 1 0 0 0 6,1 1 1 2 6 0 0 0,1 1 1 3 4 0 0 0,1 2 1 1 0 0 0 12,1 2 1 2 5 0 0 0"
    ∷ "1 2 1 3 1 0 0 0,1 3 1 1 0 0 0 18,1 3 1 2 4 0 0 0,1 3 1 3 5 0 0 0,1 4 1 1 0 0 0 24,1 4 1 2 3 0 0 0,1 4 1 3 2 0 0 0,1 5 1 1 0 0 0 30"
    ∷ "1 5 1 2 2 0 0 0,1 5 1 3 6 0 0 0,1 6 1 1 0 0 0 36,1 6 1 2 1 0 0 0,1 6 1 3 3 0 0 0,2 0 1 1 0 0 0 0,2 0 1 2 0 0 0 0,2 0 1 3 0 0 0 0"
    ∷ "2 1 1 1 0 0 0 0,2 1 1 2 0 0 0 21,2 1 1 3 1 0 0 0,2 2 2 1 1 0 0 6,2 2 2 1 6 1 1 36,2 2 2 2 1 0 1 0,2 2 2 2 6 1 0 0,2 2 2 3 4 0 1 0"
    ∷ "2 2 2 3 4 1 0 36,2 3 2 1 2 0 0 12,2 3 2 1 5 1 1 30,2 3 2 2 2 0 1 0,2 3 2 2 5 1 0 0,2 3 2 3 2 0 0 0,2 3 2 3 2 1 1 30,2 4 2 1 3 0 0 18"
    ∷ "2 4 2 1 4 1 1 24,2 4 2 2 3 0 1 0,2 4 2 2 4 1 0 0,2 4 2 3 3 0 1 0,2 4 2 3 3 1 0 24,3 0 1 1 0 0 0 0,3 0 1 2 0 0 0 0,3 0 1 3 0 0 0 0"
    ∷ "3 1 1 1 0 0 0 0,3 1 1 2 0 0 0 0,3 1 1 3 0 0 0 14,3 2 1 1 0 0 0 0,3 2 1 2 0 0 0 0,3 2 1 3 0 0 0 28,3 3 1 1 1 0 0 0,3 3 1 2 1 0 0 21"
    ∷ "3 3 1 3 1 0 0 0,3 4 1 1 1 0 0 0,3 4 1 2 1 0 0 21,3 4 1 3 1 0 0 14,3 5 1 1 1 0 0 0,3 5 1 2 1 0 0 21,3 5 1 3 1 0 0 28,3 6 6 1 2 0 0 6"
    ∷ "3 6 6 1 2 1 1 36,3 6 6 1 4 2 2 18,3 6 6 1 4 3 3 24,3 6 6 1 3 4 4 12,3 6 6 1 3 5 5 30,3 6 6 2 2 0 1 0,3 6 6 2 2 1 0 0,3 6 6 2 4 2 3 0"
    ∷ "3 6 6 2 4 3 2 0,3 6 6 2 3 4 5 0,3 6 6 2 3 5 4 0,3 6 6 3 2 0 3 0,3 6 6 3 2 1 2 36,3 6 6 3 4 2 5 0,3 6 6 3 4 3 4 24,3 6 6 3 3 4 0 18"
    ∷ "3 6 6 3 3 5 1 6" ∷ []

-- order 36: the right side of an induction's equation has the block cycle of the target
abbrev pub linked : Relations
linked = relations (3 ∷ 3 ∷ 2 ∷ 2 ∷ []) ((3, 3, 0 ∷ 1 ∷ []) ∷ (3, 1, 1 ∷ []) ∷ (4, 1, 1 ∷ []) ∷ (4, 2, 0 ∷ 1 ∷ []) ∷ (4, 3, 2 ∷ 2 ∷ []) ∷ [])

unfoldable pub linked-table : List String
linked-table =
    "1 0 1 1 0 0 0 0,1 0 1 2 0 0 0 0,1 0 1 3 0 0 0 0,1 0 1 4 0 0 0 0,1 1 1 1 0 0 0 12,1 1 1 2 1 0 0 0,1 1 1 3 2 0 0 0,1 1 1 4 2 0 0 0"
    ∷ "1 2 1 1 0 0 0 24,1 2 1 2 2 0 0 0,1 2 1 3 1 0 0 0,1 2 1 4 1 0 0 0,2 0 1 1 0 0 0 0,2 0 1 2 0 0 0 0,2 0 1 3 0 0 0 0,2 0 1 4 0 0 0 0"
    ∷ "2 1 1 1 0 0 0 0,2 1 1 2 0 0 0 12,2 1 1 3 1 0 0 0,2 1 1 4 2 0 0 0,2 2 1 1 0 0 0 0,2 2 1 2 0 0 0 24,2 2 1 3 2 0 0 0,2 2 1 4 1 0 0 0"
    ∷ "2 3 1 1 1 0 0 12,2 3 1 2 1 0 0 0,2 3 1 3 6 0 0 0,2 3 1 4 6 0 0 0,2 4 1 1 1 0 0 12,2 4 1 2 1 0 0 12,2 4 1 3 7 0 0 0,2 4 1 4 8 0 0 0"
    ∷ "2 5 1 1 1 0 0 12,2 5 1 2 1 0 0 24,2 5 1 3 8 0 0 0,2 5 1 4 7 0 0 0,2 6 1 1 2 0 0 24,2 6 1 2 2 0 0 0,2 6 1 3 3 0 0 0,2 6 1 4 3 0 0 0"
    ∷ "2 7 1 1 2 0 0 24,2 7 1 2 2 0 0 12,2 7 1 3 4 0 0 0,2 7 1 4 5 0 0 0,2 8 1 1 2 0 0 24,2 8 1 2 2 0 0 24,2 8 1 3 5 0 0 0,2 8 1 4 4 0 0 0"
    ∷ "3 0 1 1 0 0 0 0,3 0 1 2 0 0 0 0,3 0 1 3 0 0 0 0,3 0 1 4 0 0 0 0,3 1 1 1 0 0 0 0,3 1 1 2 0 0 0 0,3 1 1 3 0 0 0 18,3 1 1 4 1 0 0 0"
    ∷ "3 2 1 1 1 0 0 0,3 2 1 2 1 0 0 12,3 2 1 3 1 0 0 6,3 2 1 4 5 0 0 0,3 3 1 1 1 0 0 0,3 3 1 2 1 0 0 12,3 3 1 3 1 0 0 24,3 3 1 4 4 0 0 0"
    ∷ "3 4 1 1 2 0 0 0,3 4 1 2 2 0 0 24,3 4 1 3 2 0 0 12,3 4 1 4 3 0 0 0,3 5 1 1 2 0 0 0,3 5 1 2 2 0 0 24,3 5 1 3 2 0 0 30,3 5 1 4 2 0 0 0"
    ∷ "3 6 2 1 3 0 0 12,3 6 2 1 6 1 1 24,3 6 2 2 3 0 0 0,3 6 2 2 6 1 1 0,3 6 2 3 3 0 1 0,3 6 2 3 6 1 0 0,3 6 2 4 6 0 1 0,3 6 2 4 6 1 0 12"
    ∷ "3 7 2 1 4 0 0 12,3 7 2 1 7 1 1 24,3 7 2 2 4 0 0 12,3 7 2 2 7 1 1 12,3 7 2 3 4 0 1 0,3 7 2 3 7 1 0 12,3 7 2 4 8 0 1 0,3 7 2 4 8 1 0 12"
    ∷ "3 8 2 1 5 0 0 12,3 8 2 1 8 1 1 24,3 8 2 2 5 0 0 24,3 8 2 2 8 1 1 24,3 8 2 3 5 0 1 0,3 8 2 3 8 1 0 24,3 8 2 4 7 0 1 0,3 8 2 4 7 1 0 12"
    ∷ "4 0 1 1 0 0 0 0,4 0 1 2 0 0 0 0,4 0 1 3 0 0 0 0,4 0 1 4 0 0 0 0,4 1 1 1 0 0 0 0,4 1 1 2 0 0 0 0,4 1 1 3 0 0 0 0,4 1 1 4 0 0 0 18"
    ∷ "4 2 1 1 1 0 0 0,4 2 1 2 1 0 0 0,4 2 1 3 1 0 0 18,4 2 1 4 1 0 0 0,4 3 1 1 1 0 0 0,4 3 1 2 1 0 0 0,4 3 1 3 1 0 0 18,4 3 1 4 1 0 0 18"
    ∷ "4 4 2 1 2 0 0 0,4 4 2 1 5 1 1 0,4 4 2 2 2 0 0 12,4 4 2 2 5 1 1 24,4 4 2 3 2 0 0 6,4 4 2 3 5 1 1 30,4 4 2 4 2 0 1 0,4 4 2 4 5 1 0 0"
    ∷ "4 5 2 1 3 0 0 0,4 5 2 1 4 1 1 0,4 5 2 2 3 0 0 12,4 5 2 2 4 1 1 24,4 5 2 3 3 0 0 24,4 5 2 3 4 1 1 12,4 5 2 4 3 0 1 0,4 5 2 4 4 1 0 0"
    ∷ "4 6 2 1 6 0 0 12,4 6 2 1 6 1 1 24,4 6 2 2 6 0 0 0,4 6 2 2 6 1 1 0,4 6 2 3 6 0 1 0,4 6 2 3 6 1 0 0,4 6 2 4 6 0 1 12,4 6 2 4 6 1 0 24"
    ∷ "4 7 2 1 6 0 0 12,4 7 2 1 6 1 1 24,4 7 2 2 6 0 0 0,4 7 2 2 6 1 1 0,4 7 2 3 6 0 1 0,4 7 2 3 6 1 0 0,4 7 2 4 6 0 1 30,4 7 2 4 6 1 0 6"
    ∷ "4 8 4 1 7 0 0 12,4 8 4 1 7 1 1 24,4 8 4 1 8 2 2 12,4 8 4 1 8 3 3 24,4 8 4 2 7 0 0 12,4 8 4 2 7 1 1 12,4 8 4 2 8 2 2 24,4 8 4 2 8 3 3 24"
    ∷ "4 8 4 3 7 0 1 0,4 8 4 3 7 1 0 12,4 8 4 3 8 2 3 0,4 8 4 3 8 3 2 24,4 8 4 4 7 0 3 0,4 8 4 4 7 1 2 12,4 8 4 4 8 2 1 24,4 8 4 4 8 3 0 0" ∷ []

-- ---- Tables that are refused

-- S3: one representation of degree 2 on each level, and 4 is above the order of level 1
unfoldable pub wide-s3 : List String
wide-s3 = "1 0 2 1 0 0 0 0,1 0 2 1 0 1 1 0,1 0 2 2 0 0 0 0,1 0 2 2 0 1 1 0,2 0 2 1 0 0 0 0,2 0 2 1 0 1 1 0,2 0 2 2 0 0 0 0,2 0 2 2 0 1 1 0" ∷ []

-- C4: both generators exchange two basis indices, so the square of the second is not the first
unfoldable pub swapped-c4 : List String
swapped-c4 = "1 0 1 1 0 0 0 0,1 0 1 2 0 0 0 0,1 1 1 1 0 0 0 2,1 1 1 2 1 0 0 0,2 0 2 1 0 0 1 0,2 0 2 1 0 1 0 0,2 0 2 2 0 0 1 0,2 0 2 2 0 1 0 0" ∷ []

-- C2³: an intertwiner of level 2 leads from degree 1 to degree 2
unfoldable pub unequal-c2-cubed : List String
unequal-c2-cubed =
    "1 0 1 1 0 0 0 0,1 0 1 2 0 0 0 0,1 0 1 3 0 0 0 0,1 1 1 1 0 0 0 4,1 1 1 2 1 0 0 0,1 1 1 3 1 0 0 0,2 0 1 1 0 0 0 0,2 0 1 2 0 0 0 0"
    ∷ "2 0 1 3 1 0 0 0,2 1 2 1 0 0 0 0,2 1 2 1 0 1 1 0,2 1 2 2 0 0 0 0,2 1 2 2 0 1 1 4,2 1 2 3 1 0 0 0,2 1 2 3 1 1 1 0,3 0 1 1 0 0 0 0"
    ∷ "3 0 1 2 0 0 0 0,3 0 1 3 0 0 0 0" ∷ []

-- V4: a diagonal representation of degree 2, whose basis index 1 is not reached
unfoldable pub diagonal-v4 : List String
diagonal-v4 = "1 0 1 1 0 0 0 0,1 0 1 2 0 0 0 0,1 1 1 1 0 0 0 2,1 1 1 2 1 0 0 0,2 0 2 1 0 0 0 0,2 0 2 1 0 1 1 0,2 0 2 2 0 0 0 0,2 0 2 2 0 1 1 2" ∷ []

-- V4: a representation of degree 2 whose two basis indices are not separated
unfoldable pub exchanging-v4 : List String
exchanging-v4 = "1 0 1 1 0 0 0 0,1 0 1 2 0 0 0 0,1 1 1 1 0 0 0 2,1 1 1 2 1 0 0 0,2 0 2 1 0 0 0 0,2 0 2 1 0 1 1 0,2 0 2 2 0 0 1 0,2 0 2 2 0 1 0 0" ∷ []

-- V4: representation 1 of level 1 stands there twice
unfoldable pub doubled-v4 : List String
doubled-v4 =
    "1 0 1 1 0 0 0 0,1 0 1 2 0 0 0 0,1 1 1 1 0 0 0 2,1 1 1 2 1 0 0 0,1 2 1 1 0 0 0 2,1 2 1 2 1 0 0 0,2 0 1 1 0 0 0 0,2 0 1 2 0 0 0 0"
    ∷ "2 1 1 1 0 0 0 0,2 1 1 2 0 0 0 2,2 2 1 1 1 0 0 2,2 2 1 2 1 0 0 0,2 3 1 1 1 0 0 2,2 3 1 2 1 0 0 2" ∷ []

-- V4: the trivial representation stands last on level 2, and its last line is missing
unfoldable pub cut-v4 : List String
cut-v4 =
    "1 0 1 1 0 0 0 0,1 0 1 2 0 0 0 0,1 1 1 1 0 0 0 2,1 1 1 2 1 0 0 0,2 0 1 1 0 0 0 0,2 0 1 2 0 0 0 2,2 1 1 1 1 0 0 2,2 1 1 2 1 0 0 0"
    ∷ "2 2 1 1 1 0 0 2,2 2 1 2 1 0 0 2,2 3 1 1 0 0 0 0" ∷ []

-- for level 3 of S3-C2: degree 1, and refers to degree 2
unfoldable pub short-block : List String
short-block = "3 6 1 1 2 0 0 0,3 6 1 2 2 0 0 0,3 6 1 3 2 0 0 0" ∷ []

-- for level 3 of S3-C2: degree 2, and its second column refers elsewhere
unfoldable pub mixed-block : List String
mixed-block = "3 6 2 1 2 0 0 0,3 6 2 1 0 1 1 0,3 6 2 2 2 0 0 0,3 6 2 2 0 1 1 0,3 6 2 3 2 0 0 0,3 6 2 3 0 1 1 0" ∷ []

-- for level 2 of S3: representation 2 once more, with other exponents of the second generator
unfoldable pub shifted : List String
shifted = "2 3 2 1 1 0 0 2,2 3 2 1 2 1 1 4,2 3 2 2 1 0 1 1,2 3 2 2 2 1 0 5" ∷ []
