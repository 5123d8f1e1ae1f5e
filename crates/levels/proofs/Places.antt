-- Where the lines of the first levels stand.
--
--   level-length               words of a level
--   up_to-length                words of levels 1 to k
--   up_to-suc, up_to-all         one level more; all levels are the table
--   start_of                    the line at which a representation begins
--   start-suc, start-end       the next one; the last ends where the level ends
--   word_in                    a word of the line of a level, representation, generator and column
use mathlib.Core.Path.{◌≡◌, refl, sym, ◌∙◌, ap, ap₂}
use mathlib.Core.List.{◌++◌}
use Prim.Native.Nat.{ℕ, suc, ◌+◌, ◌*◌, ◌-◌, ◌≤◌, ◌<◌}
use native.Mathlib.Omega.{arith}
use lib.Arith.{digits_lt}
use lib.ListN.{length, get_or, get_or-append}
use Rattle.definitions.specs.Lists.{blocks, sum}
use Rattle.definitions.specs.Presentation.{Presentation, order, line_words}
use Rattle.definitions.specs.Monomial.{Level, rep_of}
use Rattle.definitions.specs.Table.{line_of, rep_words, level_words, word_at}
use Rattle.definitions.specs.Steps.{levels, table_with, table_of}
use Rattle.numbers.proofs.Lists.{length-blocks, sum_mono}
use Rattle.numbers.proofs.Sums.{sum-suc, sum_below, sum-mul}
use Rattle.numbers.proofs.Blocks.{blocks-suc, blocks-split}
use Rattle.builder.proofs.Above.{rep_words-length}
use Rattle.clifford.specs.Accepted.{Accepted}
use Rattle.clifford.proofs.Standing.{standing, setting}
use Rattle.clifford.proofs.Lines.{LevelsListed, table, level_lines, rep_lines, line_number, word-at}
use Rattle.levels.specs.Built.{up_to, lines_to, degree_in, level_of}

pub level-length : (n i : ℕ) (L : Level) → length (level_words n i L) ≡ 8 * sum (length L) (λ r. n * (rep_of L r).deg)
unfolding level_words
level-length n i L =
    length-blocks (length L) (λ r. rep_words n i r (rep_of L r)) ∙ sum_below (length L) _ (λ r. 8 * (n * (rep_of L r).deg)) (λ r l. rep_words-length n i r (rep_of L r))
    ∙ sum-mul (length L) 8 (λ r. n * (rep_of L r).deg)

module _ (A : Accepted) where
  abbrev P : Presentation
  P = A.C.P

  abbrev n : ℕ
  n = A.C.P.n

  abbrev m : ℕ
  m = order P n

  abbrev level : ℕ → Level
  level k = levels P m (suc k)

  abbrev wide : ℕ → ℕ → ℕ
  wide k r = n * degree_in A k r

  -- ---- Lengths

  pub lines-suc : (k : ℕ) → lines_to A (suc k) ≡ lines_to A k + sum (length (level_of A (suc k))) (λ r. A.C.P.n * degree_in A k r)
  unfolding lines_to
  lines-suc k = sum-suc k _

  pub up_to-length : (k : ℕ) → length (up_to A k) ≡ 8 * lines_to A k
  unfolding up_to lines_to
  up_to-length k =
      length-blocks k (λ i. level_words n (suc i) (level i)) ∙ sum_below k _ (λ i. 8 * sum (length (level i)) (wide i)) (λ i l. level-length n (suc i) (level i))
      ∙ sum-mul k 8 (λ i. sum (length (level i)) (wide i))

  pub up_to-suc : (k : ℕ) → up_to A (suc k) ≡ up_to A k ++ level_words A.C.P.n (suc k) (level_of A (suc k))
  unfolding up_to
  up_to-suc k = blocks-suc k _

  pub up_to-all : up_to A A.C.P.n ≡ table_of A.C.P
  unfolding up_to table_of table_with
  up_to-all = refl

  -- ---- Lines

  unfoldable pub start_of : ℕ → ℕ → ℕ
  start_of k r = lines_to A k + sum r (λ q. A.C.P.n * degree_in A k q)

  pub start-zero : (k : ℕ) → start_of k 0 ≡ lines_to A k
  unfolding start_of sum
  start-zero k = omega arith

  pub start-suc : (k r : ℕ) → start_of k (suc r) ≡ start_of k r + A.C.P.n * degree_in A k r
  unfolding start_of
  start-suc k r = omega (arith, sum-suc r (wide k))

  pub start-end : (k r : ℕ) → r ≤ length (level_of A (suc k)) → start_of k r ≤ lines_to A (suc k)
  unfolding start_of
  start-end k r h = omega (arith, lines-suc k, sum_mono r (length (level k)) (wide k) h)

  pub line-below : (k r g c : ℕ) → r < length (level_of A (suc k)) → g < A.C.P.n → c < degree_in A k r → start_of k r + (g * degree_in A k r + c) < lines_to A (suc k)
  line-below k r g c h a b =
      let d : g * degree_in A k r + c < n * degree_in A k r = digits_lt a b in
      omega (arith, start-suc k r, start-end k (suc r) h)

  -- ---- Words

  abbrev written : LevelsListed
  written = record { n = n; positive = A.positive; L = λ k. levels P m (suc k); degree_pos = λ k r l h. (standing (setting A) (suc k) l).stands.degree_pos r h }

  table_is : up_to A n ≡ table written
  unfolding up_to table
  table_is = refl

  line-is : (k r g c : ℕ) → start_of k r + (g * degree_in A k r + c) ≡ line_number written k r g c
  unfolding start_of lines_to line_number level_lines rep_lines
  line-is k r g c = omega arith

  -- the words of the first levels are those of the table
  word-up : (k l w : ℕ) → k ≤ n → l < lines_to A k → w < 8 → word_at (up_to A k) l w ≡ word_at (up_to A n) l w
  unfolding word_at up_to line_words
  word-up k l w a b c =
      let e : k + (n - k) ≡ n = omega arith in
      let i : 8 * l + w < length (up_to A k) = omega (arith, up_to-length k) in
      sym (get_or-append (up_to A k) (blocks (n - k) (λ j. level_words n (suc (k + j)) (level (k + j)))) 0 (8 * l + w) i)
      ∙ ap (λ W. get_or W (8 * l + w) 0) (sym (blocks-split k (n - k) (λ i. level_words n (suc i) (level i))) ∙ ap (λ x. blocks x (λ i. level_words n (suc i) (level i))) e)

  pub word_in : (k r g c w : ℕ) → k < A.C.P.n → r < length (level_of A (suc k)) → g < A.C.P.n → c < degree_in A k r → w < 8
      → word_at (up_to A (suc k)) (start_of k r + (g * degree_in A k r + c)) w ≡ get_or (line_of (suc k) r (rep_of (level_of A (suc k)) r) g c) w 0
  unfolding line_words
  word_in k r g c w a b d e h =
      word-up (suc k) (start_of k r + (g * degree_in A k r + c)) w a (line-below k r g c b d e) h ∙ ap₂ (λ T x. word_at T x w) table_is (line-is k r g c)
      ∙ word-at written k r g c w a b d e h
