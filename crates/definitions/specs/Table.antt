-- Table lines, eight words each, and table text ("Table lines" in the specification).
--
--   LEVEL .. EXP               the fields of a line, by their place in it
--   line_of, level_words         the lines of a level's representations, in order
--   word_at T l k               word k of line l
--   line_count T                how many whole lines
--   degrees T i                the degrees that level i of a table lists
--   first_line n T i r          the line at which representation r of level i begins
--   rep_at, level_at             a table's representations, read off its words
--   complete n T               the lines are complete and in order
--   table_names, table_text T    table text
--   writable T                 the words can be written as table text
use Rattle.std.specs.Prelude.{ℕ, zero, suc, ◌+◌, ◌*◌, ◌/◌, ◌%◌, Bool, ◌&&◌, cond, List, [], ◌∷◌, map, length, get_or, take, drop, eqb, ltb}
use Rattle.definitions.specs.Lists.{upto, blocks, sum, all_below, same}
use Rattle.definitions.specs.Text.{Bytes, render, small}
use Rattle.definitions.specs.Presentation.{line_words}
use Rattle.definitions.specs.Monomial.{entry, col, identity, Rep, Level, rep_of}

-- ---- The fields of a line

abbrev pub LEVEL : ℕ
LEVEL = 0

abbrev pub REP : ℕ
REP = 1

abbrev pub DEG : ℕ
DEG = 2

abbrev pub GEN : ℕ
GEN = 3

abbrev pub REF : ℕ
REF = 4

abbrev pub COL : ℕ
COL = 5

abbrev pub ROW : ℕ
ROW = 6

abbrev pub EXP : ℕ
EXP = 7

-- ---- Lines

-- LEVEL REP DEG GEN REF COL ROW EXP, in this order, for column c of generator g
unfoldable pub line_of : (i r : ℕ) → Rep → (g c : ℕ) → List ℕ
line_of i r D g c = i ∷ r ∷ D.deg ∷ suc g ∷ D.ref g c ∷ c ∷ (col (D.matrix g) c).row ∷ (col (D.matrix g) c).exp ∷ []

-- by generator from 1 to n, then by column
unfoldable pub rep_words : (n i r : ℕ) → Rep → List ℕ
rep_words n i r D = blocks n (λ g. blocks D.deg (λ c. line_of i r D g c))

-- by representation from 0
unfoldable pub level_words : (n i : ℕ) → Level → List ℕ
level_words n i L = blocks (length L) (λ r. rep_words n i r (rep_of L r))

-- ---- A table's representations

unfoldable pub word_at : List ℕ → ℕ → ℕ → ℕ
word_at T l k = get_or T (line_words * l + k) 0

unfoldable pub line_count : List ℕ → ℕ
line_count T = length T / line_words

-- line l is the first of a representation of level i: its gen is 1 and its col is 0
unfoldable pub begins : List ℕ → ℕ → ℕ → Bool
begins T i l = eqb (word_at T l LEVEL) i && eqb (word_at T l GEN) 1 && eqb (word_at T l COL) 0

-- the deg of each such line
unfoldable pub degrees : List ℕ → ℕ → List ℕ
degrees T i = blocks (line_count T) (λ l. cond (begins T i l) (word_at T l DEG ∷ []) [])

-- columns of the first r representations that a list of degrees tells
unfoldable pub columns : List ℕ → ℕ → ℕ
columns ds r = sum r (λ q. get_or ds q 0)

-- each column has a line for each of the n generators; levels are counted from 1
unfoldable pub first_line : (n : ℕ) → List ℕ → (i r : ℕ) → ℕ
first_line n T zero r = 0
first_line n T (suc i) r = n * (sum i (λ k. columns (degrees T (suc k)) (length (degrees T (suc k)))) + columns (degrees T (suc i)) r)

-- the representation of degree d whose first line is l
unfoldable pub rep_at : List ℕ → (l d : ℕ) → Rep
rep_at T l d = record {
  deg = d;
  matrix = λ g. map (λ c. entry (word_at T (l + g * d + c) ROW) (word_at T (l + g * d + c) EXP)) (upto d);
  ref = λ g c. word_at T (l + g * d + c) REF;
}

-- level 0 has one representation of degree 1, and its intertwiners are the identity
unfoldable pub level_zero : Level
level_zero = record { deg = 1; matrix = λ g. identity 1; ref = λ g c. 0 } ∷ []

unfoldable pub level_at : (n : ℕ) → List ℕ → ℕ → Level
level_at n T zero = level_zero
level_at n T (suc i) = map (λ r. rep_at T (first_line n T (suc i) r) (get_or (degrees T (suc i)) r 0)) (upto (length (degrees T (suc i))))

-- every level from 1 to n has representations, and the words are their lines, each once, in order, and no others
unfoldable pub complete : ℕ → List ℕ → Bool
complete n T = all_below n (λ i. ltb 0 (length (level_at n T (suc i)))) && same T (blocks n (λ i. level_words n (suc i) (level_at n T (suc i))))

-- ---- Table text

-- level rep deg gen ref col row exp
unfoldable pub table_names : List Bytes
table_names =
    (108 ∷ 101 ∷ 118 ∷ 101 ∷ 108 ∷ [])
    ∷ (114 ∷ 101 ∷ 112 ∷ [])
    ∷ (100 ∷ 101 ∷ 103 ∷ [])
    ∷ (103 ∷ 101 ∷ 110 ∷ [])
    ∷ (114 ∷ 101 ∷ 102 ∷ [])
    ∷ (99 ∷ 111 ∷ 108 ∷ [])
    ∷ (114 ∷ 111 ∷ 119 ∷ [])
    ∷ (101 ∷ 120 ∷ 112 ∷ [])
    ∷ []

-- the lines as rows of eight values
unfoldable pub rows_of : List ℕ → List (List ℕ)
rows_of T = map (λ l. take line_words (drop (line_words * l) T)) (upto (line_count T))

unfoldable pub table_text : List ℕ → Bytes
table_text T = render table_names (rows_of T)

-- whole lines, and every value has at most nine digits
unfoldable pub writable : List ℕ → Bool
writable T = eqb (length T % line_words) 0 && small T
