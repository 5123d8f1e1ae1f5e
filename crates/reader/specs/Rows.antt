-- The lines of values of a presentation text, and what is kept of them.
--
--   no_row, row_text          the row that is none; the text of the first lines of a presentation
--   passes                  the p of a pair (j, i) is no obstacle: i is not j, or p is prime
--   RowKept                    a line kept in the rows and the list of every p, if there is a row for it
--   RowsStored                  every row for which there is room is kept so
--   AllLines, NoLines, LinesAt     what reading all lines says
use Rattle.std.specs.Prelude.{◌≡◌, Bool, true, false, ◌||◌, not, ℕ, ◌<◌, ◌≤◌, length, get_or, set, drop, eqb, Option, Some, None}
use mathlib.Core.List.{List, [], zip_with, flat_map}
use Rattle.definitions.specs.Lists.{all}
use Rattle.definitions.specs.Text.{Bytes, value_line}
use Rattle.definitions.specs.Presentation.{max_generators, pair_count, Row, pairs, pair_number, row_values, is_prime}
use Rattle.definitions.proofs.Rendering.{row_formed}

abbrev pub no_row : Row
no_row = record { p = 2; word = [] }

unfoldable pub row_text : ℕ → List Row → Bytes
row_text n lines = flat_map value_line (zip_with row_values (pairs n) lines)

abbrev pub passes : ℕ → ℕ → ℕ → Bool
passes j i p = not (eqb i j) || is_prime p

pub record RowKept (rows : List (List ℕ)) (ps : List ℕ) (k p : ℕ) (e : List ℕ) (rows' : List (List ℕ)) (ps' : List ℕ) : Type 0 where
  pub kept_word : k < pair_count → rows' ≡ set rows k e
  pub kept_p : k < pair_count → ps' ≡ set ps k p
  pub past_word : pair_count ≤ k → rows' ≡ rows
  pub past_p : pair_count ≤ k → ps' ≡ ps

-- of each line the p and as many exponents as are kept
pub record RowsStored (lines : List Row) (rows : List (List ℕ)) (ps : List ℕ) : Type 0 where
  pub word_kept : (m : ℕ) → m < length lines → m < pair_count → (c : ℕ) → c < max_generators → get_or (get_or rows m []) c 0 ≡ get_or (get_or lines m no_row).word c 0
  pub p_kept : (m : ℕ) → m < length lines → m < pair_count → get_or ps m 0 ≡ (get_or lines m no_row).p

module _ (t : Bytes) (start n : ℕ) where
  -- the lines from `start` on are in the form, and nothing stands behind them
  pub record AllLines (rows : List (List ℕ)) (ps : List ℕ) (primes : Bool) : Type 0 where
    pub lines : List Row
    pub count : length lines ≡ length (pairs n)
    pub formed : all (row_formed n) lines ≡ true
    pub text : drop start t ≡ row_text n lines
    pub stored : RowsStored lines rows ps
    pub prime : primes ≡ true → (j : ℕ) → j < n → is_prime (get_or lines (pair_number j j) no_row).p ≡ true
    pub composite : primes ≡ false → (j : ℕ) × (j < n) × (is_prime (get_or lines (pair_number j j) no_row).p ≡ false)

  pub record NoLines : Type 0 where
    pub none : (lines : List Row) → length lines ≡ length (pairs n) → all (row_formed n) lines ≡ true → drop start t ≡ row_text n lines → ⊥

  pub record LinesAt (rows : List (List ℕ)) (ps : List ℕ) (r : Option Bool) : Type 0 where
    pub stands : (primes : Bool) → r ≡ Some primes → AllLines rows ps primes
    pub fails : r ≡ None → NoLines
