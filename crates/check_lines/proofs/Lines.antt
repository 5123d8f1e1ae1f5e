-- What the tests of lines say.
--
--   Missed, missed-none, missed_more, missed-all, missed-found     a loop that looks for a number
--   entry-high, entry-last, entry-low     an entry by its row, and then by its exponent
--   entries_below              entries in range have rows below the degree
--   matrix-apart, matrix-entries, matrix-rows, matrix-missed     a matrix by its entries, and then by its rows
--   ref-read                   what a column refers to
--   target-unlisted, target-refs      where an intertwiner leads, by its first column and then by all
--   above-none, above-is       generators above a level
use mathlib.Core.Path.{◌≡◌, sym, ◌∙◌, ap, ap₂}
use mathlib.Core.Bool.{Bool, true, false, ◌&&◌, ◌||◌, and-false}
use mathlib.Core.List.{List}
use Prim.Native.Nat.{ℕ, ◌+◌, ◌≤◌, ◌<◌}
use native.Mathlib.Nat.{add-zero}
use native.Mathlib.Omega.{arith}
use lib.Dec.{eqb, ltb}
use lib.ListN.{length}
use borrow.Author.Count.{below_more}
use borrow.Author.Tests.{eq-eqb, ltb-true, lt-ltb, le-ltb}
use Rattle.definitions.specs.declared.Entry.{Entry}
use Rattle.definitions.specs.Lists.{all_below, any_below}
use Rattle.definitions.specs.Monomial.{Matrix, valid}
use Rattle.definitions.specs.Table.{REF, word_at}
use Rattle.numbers.proofs.Bools.{and_left}
use Rattle.numbers.proofs.Lists.{all_below-below, all_below-elim}
use Rattle.numbers.proofs.Searches.{any_below-below, any_below-intro, any_below-fails}
use Rattle.numbers.proofs.Blocks.{length-table}
use Rattle.numbers.proofs.Tested.{Tested}
use Rattle.level.specs.declared.Listed.{Listed}
use Rattle.level.specs.Stored.{entry_in, matrix_in, line_in}
use Rattle.level.proofs.Columns.{col-matrix_in}
use Rattle.check_lines.specs.Lines.{ref_in, entry_ok, RowsBelow, has_row, refs_are, target_ok}

-- ---- A search

-- the numbers below k fail a test
pub record Missed (q : ℕ → Bool) (k : ℕ) : Type 0 where
  pub each : (j : ℕ) → j < k → q j ≡ false

module _ {q : ℕ → Bool} where
  pub missed-none : Missed q 0
  missed-none = record { each = λ j l. absurd (omega arith) }

  module _ {k : ℕ} (h : Missed q k) where
    pub missed_more : q k ≡ false → Missed q (k + 1)
    missed_more w = record { each = below_more (λ j. q j ≡ false) k h.each w }

    pub missed-all : {n : ℕ} → n ≤ k → false ≡ any_below n q
    missed-all {n} l = sym (any_below-fails n q (λ j b. h.each j (omega arith)))

    pub missed-found : {n : ℕ} → k < n → q k ≡ true → true ≡ any_below n q
    missed-found {n} l w = sym (any_below-intro n q k l w)

-- ---- Matrices

pub entry-high : (m d : ℕ) (x : Entry) → d ≤ x.row → false ≡ entry_ok m d x
entry-high m d x h = sym (ap (λ t. t && ltb x.exp m) (le-ltb x.row d h))

pub entry-last : (m d : ℕ) (x : Entry) → x.row < d → ltb x.exp m ≡ entry_ok m d x
entry-last m d x h = sym (ap (λ t. t && ltb x.exp m) (lt-ltb x.row d h))

pub entry-low : (m d : ℕ) (x : Entry) → entry_ok m d x ≡ true → x.row < d
entry-low m d x h = ltb-true x.row d (and_left (ltb x.row d) (ltb x.exp m) h)

module _ (m : ℕ) (T : List ℕ) (at d : ℕ) where
  abbrev M : Matrix
  M = matrix_in T at d

  abbrev entries : Bool
  entries = all_below d (λ c. entry_ok m d (entry_in T (at + c)))

  matrix-is : (entries && all_below d (has_row T at d)) ≡ valid m d (matrix_in T at d)
  unfolding valid
  matrix-is = sym (ap₂ (◌&&◌)
      (ap₂ (◌&&◌) (eq-eqb (length M) d (length-table (λ c. entry_in T (at + c)) d))
      (all_below-below d _ _ (λ c l. ap (λ (x : Entry). ltb x.row d && ltb x.exp m) (col-matrix_in T at d c l))))
      (all_below-below d _ _ (λ r _. any_below-below d _ _ (λ c l. ap (λ (x : Entry). eqb x.row r) (col-matrix_in T at d c l)))))

  pub entries_below : all_below d (λ c. entry_ok m d (entry_in T (at + c))) ≡ true → RowsBelow T at d
  entries_below h c l = entry-low m d (entry_in T (at + c)) (all_below-elim d _ h c l)

  pub matrix-apart : all_below d (λ c. entry_ok m d (entry_in T (at + c))) ≡ false → false ≡ valid m d (matrix_in T at d)
  matrix-apart h = sym (ap (λ t. t && all_below d (has_row T at d)) h) ∙ matrix-is

  pub matrix-entries : valid m d (matrix_in T at d) ≡ true → all_below d (λ c. entry_ok m d (entry_in T (at + c))) ≡ true
  matrix-entries h = and_left entries (all_below d (has_row T at d)) (matrix-is ∙ h)

  pub matrix-rows : all_below d (λ c. entry_ok m d (entry_in T (at + c))) ≡ true → all_below d (has_row T at d) ≡ valid m d (matrix_in T at d)
  matrix-rows h = sym (ap (λ t. t && all_below d (has_row T at d)) h) ∙ matrix-is

  pub matrix-missed : all_below d (has_row T at d) ≡ false → false ≡ valid m d (matrix_in T at d)
  matrix-missed h = sym (ap (λ t. entries && t) h ∙ and-false entries) ∙ matrix-is

-- ---- Generators

-- the reference that is read at a line and a column
pub ref-read : (T : List ℕ) (D : Listed) (g : ℕ) {at k c x : ℕ} → at ≡ line_in D g → k ≡ c → x ≡ word_at T (at + k) REF → x ≡ ref_in T D g c
ref-read T D g a b e = e ∙ ap₂ (λ l c. word_at T (l + c) REF) a b

module _ (T : List ℕ) (D : Listed) (many j at x : ℕ) (there : at ≡ line_in D j) (is : x ≡ word_at T at REF) where
  first-is : x ≡ ref_in T D j 0
  first-is = is ∙ ap (λ l. word_at T l REF) (there ∙ sym (add-zero (line_in D j)))

  abbrev same : Bool
  same = all_below D.deg (λ c. eqb (ref_in T D j c) (ref_in T D j 0))

  pub target-unlisted : many ≤ x → false ≡ target_ok T D many j
  target-unlisted h = sym (ap (λ t. t && same) (le-ltb (ref_in T D j 0) many (omega (arith, first-is))))

  pub target-refs : x < many → refs_are T at D.deg x ≡ target_ok T D many j
  target-refs h =
      ap₂ (λ l y. all_below D.deg (λ c. eqb (word_at T (l + c) REF) y)) there first-is
      ∙ sym (ap (λ t. t && same) (lt-ltb (ref_in T D j 0) many (omega (arith, first-is))))

module _ (q : ℕ → Bool) (i : ℕ) where
  pub above-none : Tested (λ j. ltb j i || q j) i
  above-none = record { each = λ j l. ap (λ t. t || q j) (lt-ltb j i l) }

  pub above-is : (j : ℕ) → i ≤ j → (ltb j i || q j) ≡ q j
  above-is j l = ap (λ t. t || q j) (le-ltb j i l)
