-- The words of levels, read back: a table that is the lines of levels lists their degrees, matrices and references.
--
--   LevelsListed               levels with positive degrees, and the table of their lines
--   line-count            how many lines it has
--   word-at               a word of the line of a level, representation, generator and column
--   degrees-length, degrees-at      the degrees that the table lists
--   first-line            where a representation begins
--   Agrees                two levels agree where a table says something
--   read-back             the levels that the table says agree with those that were written
use mathlib.Core.Path.{◌≡◌, refl, sym, ◌∙◌, ap, ap₂, subst}
use mathlib.Core.Bool.{◌&&◌, cond}
use mathlib.Core.List.{List, [], ◌∷◌}
use Prim.Native.Nat.{ℕ, suc, ◌+◌, ◌*◌, ◌/◌, ◌≤◌, ◌<◌}
use native.Mathlib.Nat.{mul-add, mul-div_right, mul-le-mul_left}
use native.Mathlib.Omega.{arith}
use lib.Arith.{digits_lt}
use lib.Dec.{eqb}
use lib.ListN.{length, get_or}
use borrow.Author.Tests.{eq-eqb, ne_eqb}
use Rattle.definitions.specs.Lists.{blocks, sum}
use Rattle.definitions.specs.Presentation.{line_words}
use Rattle.definitions.specs.Monomial.{entry, col, Rep, Level, rep_of, no_rep}
use Rattle.definitions.specs.Table.{line_of, rep_words, level_words, word_at, line_count, begins, degrees, columns, first_line, rep_at, level_at}
use Rattle.numbers.proofs.Bools.{and_last, cond-true, cond-false}
use Rattle.numbers.proofs.Lists.{length-blocks}
use Rattle.numbers.proofs.Sums.{sum_below, sum-const, sum-mul, stretch-below}
use Rattle.numbers.proofs.Blocks.{get_or-table, length-table, get_or-blocks, length-even, get_or-even, blocks-below, blocks-stretches, blocks-none, blocks-single}
use Rattle.monomial.proofs.Frames.{col-table}

pub record LevelsListed : Type 0 where
  pub n : ℕ
  pub positive : 0 < n
  pub L : ℕ → Level
  pub degree_pos : (k r : ℕ) → k < n → r < length (L k) → 0 < (rep_of (L k) r).deg

-- two levels agree in what the lines of generators below n say
pub record Agrees (n : ℕ) (L M : Level) : Type 0 where
  pub same_length : length L ≡ length M
  pub same_degree : (r : ℕ) → r < length L → (rep_of L r).deg ≡ (rep_of M r).deg
  pub size : (r g : ℕ) → r < length L → g < n → length ((rep_of M r).matrix g) ≡ (rep_of M r).deg
  pub same_column : (r g c : ℕ) → r < length L → g < n → c < (rep_of L r).deg → col ((rep_of L r).matrix g) c ≡ col ((rep_of M r).matrix g) c
  pub same_ref : (r g c : ℕ) → r < length L → g < n → c < (rep_of L r).deg → (rep_of L r).ref g c ≡ (rep_of M r).ref g c

module _ (W : LevelsListed) where
  open W use {n, L}

  -- level k of the record is level suc k of the table
  unfoldable pub table : List ℕ
  table = blocks n (λ k. level_words n (suc k) (L k))

  abbrev pub deg : ℕ → ℕ → ℕ
  deg k r = (rep_of (L k) r).deg

  abbrev line : ℕ → ℕ → ℕ → ℕ → List ℕ
  line k r g c = line_of (suc k) r (rep_of (L k) r) g c

  line-length : (k r g c : ℕ) → length (line k r g c) ≡ line_words
  unfolding line_of line_words
  line-length k r g c = refl

  -- ---- Lines

  -- the lines of a representation, of a level, and of the levels before
  unfoldable pub rep_lines : ℕ → ℕ → ℕ
  rep_lines k r = n * deg k r

  unfoldable pub level_lines : ℕ → ℕ
  level_lines k = sum (length (L k)) (rep_lines k)

  unfoldable pub line_number : ℕ → ℕ → ℕ → ℕ → ℕ
  line_number k r g c = sum k level_lines + (sum r (rep_lines k) + (g * deg k r + c))

  rep-words : (k r : ℕ) → length (rep_words n (suc k) r (rep_of (L k) r)) ≡ line_words * rep_lines k r
  unfolding rep_words rep_lines
  rep-words k r =
      length-even (λ g. blocks (deg k r) (λ c. line k r g c)) (deg k r * line_words) n
      (λ g l. length-even (λ c. line k r g c) line_words (deg k r) (λ c a. line-length k r g c))
      ∙ omega arith

  level-words : (k : ℕ) → length (level_words n (suc k) (L k)) ≡ line_words * level_lines k
  unfolding level_words level_lines
  level-words k =
      length-blocks (length (L k)) (λ r. rep_words n (suc k) r (rep_of (L k) r))
      ∙ sum_below (length (L k)) _ (λ r. line_words * rep_lines k r) (λ r l. rep-words k r)
      ∙ sum-mul (length (L k)) line_words (rep_lines k)

  pub table-length : length table ≡ line_words * sum n level_lines
  unfolding table
  table-length = length-blocks n (λ k. level_words n (suc k) (L k)) ∙ sum_below n _ (λ k. line_words * level_lines k) (λ k l. level-words k)
      ∙ sum-mul n line_words level_lines

  pub line-count : line_count table ≡ sum n level_lines
  unfolding line_count line_words
  line-count = ap (λ z. z / line_words) table-length ∙ mul-div_right (sum n level_lines) (omega arith)

  -- ---- Words

  module _ (k r g c w : ℕ) (k_below : k < n) (r_below : r < length (L k)) (g_below : g < n) (c_below : c < deg k r) (w-below : w < line_words) where
    in-rep : get_or (rep_words n (suc k) r (rep_of (L k) r)) (line_words * (g * deg k r + c) + w) 0 ≡ get_or (line k r g c) w 0
    unfolding rep_words
    in-rep =
        let e : line_words * (g * deg k r + c) + w ≡ g * (deg k r * line_words) + (c * line_words + w) = omega arith in
        let l : c * line_words + w < deg k r * line_words = digits_lt c_below w-below in
        ap (λ z. get_or (blocks n (λ g. blocks (deg k r) (λ c. line k r g c))) z 0) e
        ∙ get_or-even (λ g. blocks (deg k r) (λ c. line k r g c)) (deg k r * line_words) 0 n g (c * line_words + w)
        (λ g a. length-even (λ c. line k r g c) line_words (deg k r) (λ c b. line-length k r g c)) g_below l
        ∙ get_or-even (λ c. line k r g c) line_words 0 (deg k r) c w (λ c b. line-length k r g c) c_below w-below

    in-level : get_or (level_words n (suc k) (L k)) (line_words * (sum r (rep_lines k) + (g * deg k r + c)) + w) 0 ≡ get_or (line k r g c) w 0
    unfolding level_words rep_lines
    in-level =
        let start : sum r (λ r. length (rep_words n (suc k) r (rep_of (L k) r))) ≡ line_words * sum r (rep_lines k) =
        sum_below r _ (λ r. line_words * rep_lines k r) (λ r l. rep-words k r) ∙ sum-mul r line_words (rep_lines k) in
        let e : line_words * (sum r (rep_lines k) + (g * deg k r + c)) + w ≡ line_words * sum r (rep_lines k) + (line_words * (g * deg k r + c) + w) = omega arith in
        let gl : g * deg k r + c < n * deg k r = digits_lt g_below c_below in
        let l : line_words * (g * deg k r + c) + w < line_words * rep_lines k r = omega (arith, mul-le-mul_left line_words gl) in
        ap (λ z. get_or (blocks (length (L k)) (λ r. rep_words n (suc k) r (rep_of (L k) r))) z 0)
        (e ∙ ap (λ z. z + (line_words * (g * deg k r + c) + w)) (sym start))
        ∙ get_or-blocks 0 (length (L k)) (λ r. rep_words n (suc k) r (rep_of (L k) r)) r (line_words * (g * deg k r + c) + w) r_below
        (subst (λ z. line_words * (g * deg k r + c) + w < z) (sym (rep-words k r)) l)
        ∙ in-rep

    pub word-at : word_at table (line_number k r g c) w ≡ get_or (line_of (suc k) r (rep_of (L k) r) g c) w 0
    unfolding word_at table line_number rep_lines level_lines
    word-at =
        let start : sum k (λ k. length (level_words n (suc k) (L k))) ≡ line_words * sum k level_lines =
        sum_below k _ (λ k. line_words * level_lines k) (λ k l. level-words k) ∙ sum-mul k line_words level_lines in
        let κ : ℕ = sum r (rep_lines k) + (g * deg k r + c) in
        let e : line_words * (sum k level_lines + κ) + w ≡ line_words * sum k level_lines + (line_words * κ + w) = omega arith in
        let gl : g * deg k r + c < rep_lines k r = digits_lt g_below c_below in
        let kl : κ < level_lines k = stretch-below (rep_lines k) r (g * deg k r + c) (length (L k)) gl r_below in
        let l : line_words * κ + w < line_words * level_lines k = omega (arith, mul-le-mul_left line_words kl) in
        ap (λ z. get_or (blocks n (λ k. level_words n (suc k) (L k))) z 0) (e ∙ ap (λ z. z + (line_words * κ + w)) (sym start))
        ∙ get_or-blocks 0 n (λ k. level_words n (suc k) (L k)) k (line_words * κ + w) k_below (subst (λ z. line_words * κ + w < z) (sym (level-words k)) l)
        ∙ in-level

  -- ---- Degrees

  module _ (i : ℕ) (i_below : i < n) where
    pick : ℕ → List ℕ
    pick l = cond (begins table (suc i) l) (word_at table l 2 ∷ []) []

    -- the line of a level, representation, generator and column
    pick_at : (k r g c : ℕ) → k < n → r < length (L k) → g < n → c < deg k r
        → pick (line_number k r g c) ≡ cond (eqb (suc k) (suc i) && eqb (suc g) 1 && eqb c 0) (deg k r ∷ []) []
    unfolding pick begins line_words line_of
    pick_at k r g c a b d e =
        let w : (x : ℕ) → x < line_words → word_at table (line_number k r g c) x ≡ get_or (line k r g c) x 0 = λ x l. word-at k r g c x a b d e l in
        ap₂ (λ t x. cond t (x ∷ []) [])
        (ap₂ (◌&&◌) (ap₂ (λ x y. eqb x (suc i) && eqb y 1) (w 0 (omega arith)) (w 3 (omega arith))) (ap (λ x. eqb x 0) (w 5 (omega arith))))
        (w 2 (omega arith))

    abbrev chosen : ℕ → ℕ → ℕ → ℕ → List ℕ
    chosen k r g c = cond (eqb (suc k) (suc i) && eqb (suc g) 1 && eqb c 0) (deg k r ∷ []) []

    -- nothing is chosen but the first column of the first generator of level i
    other-level : (k r g c : ℕ) → ¬ (k ≡ i) → chosen k r g c ≡ []
    other-level k r g c ne =
        cond-false _ (deg k r ∷ []) [] (ap (λ t. t && eqb (suc g) 1 && eqb c 0) (ne_eqb (suc k) (suc i) (λ e. ne (omega arith))))

    other-generator : (k r g c : ℕ) → ¬ (g ≡ 0) → chosen k r g c ≡ []
    other-generator k r g c ne =
        cond-false _ (deg k r ∷ []) [] (ap (λ t. t && eqb c 0) (and_last (eqb (suc k) (suc i)) (eqb (suc g) 1) (ne_eqb (suc g) 1 (λ e. ne (omega arith)))))

    other-column : (k r g c : ℕ) → ¬ (c ≡ 0) → chosen k r g c ≡ []
    other-column k r g c ne = cond-false _ (deg k r ∷ []) [] (and_last (eqb (suc k) (suc i) && eqb (suc g) 1) (eqb c 0) (ne_eqb c 0 ne))

    -- what the lines of a representation give
    of-rep : (k r : ℕ) → k < n → r < length (L k) → blocks (rep_lines k r) (λ κ. pick (sum k level_lines + (sum r (rep_lines k) + κ))) ≡ chosen k r 0 0
    unfolding rep_lines line_number level_lines
    of-rep k r a b =
        ap (λ z. blocks z (λ κ. pick (sum k level_lines + (sum r (rep_lines k) + κ)))) (sym (sum-const n (deg k r)))
        ∙ blocks-stretches (λ g. deg k r) n (λ κ. pick (sum k level_lines + (sum r (rep_lines k) + κ)))
        ∙ blocks-below n _ (λ g. blocks (deg k r) (chosen k r g)) (λ g l. blocks-below (deg k r) _ (chosen k r g) (λ c e.
        ap (λ z. pick (sum k level_lines + (sum r (rep_lines k) + (z + c)))) (sum-const g (deg k r)) ∙ pick_at k r g c a b l e))
        ∙ blocks-single n (λ g. blocks (deg k r) (chosen k r g)) 0 W.positive
        (λ g l ne. blocks-none (deg k r) (chosen k r g) (λ c e. other-generator k r g c ne))
        ∙ blocks-single (deg k r) (chosen k r 0) 0 (W.degree_pos k r a b) (λ c l ne. other-column k r 0 c ne)

    pub degrees-are : degrees table (suc i) ≡ blocks (length (L i)) (λ r. deg i r ∷ [])
    unfolding degrees pick level_lines
    degrees-are =
        ap (λ z. blocks z pick) line-count ∙ blocks-stretches level_lines n pick
        ∙ blocks-below n _ (λ k. blocks (length (L k)) (λ r. chosen k r 0 0)) (λ k a.
        blocks-stretches (rep_lines k) (length (L k)) (λ κ. pick (sum k level_lines + κ))
        ∙ blocks-below (length (L k)) _ (λ r. chosen k r 0 0) (λ r l. of-rep k r a l))
        ∙ blocks-single n (λ k. blocks (length (L k)) (λ r. chosen k r 0 0)) i i_below
        (λ k l ne. blocks-none (length (L k)) (λ r. chosen k r 0 0) (λ r e. other-level k r 0 0 ne))
        ∙ blocks-below (length (L i)) (λ r. chosen i r 0 0) (λ r. deg i r ∷ [])
        (λ r l. cond-true _ (deg i r ∷ []) [] (ap₂ (◌&&◌) (ap₂ (◌&&◌) (eq-eqb (suc i) (suc i) refl) refl) refl))

    pub degrees-length : length (degrees table (suc i)) ≡ length (L i)
    degrees-length = ap length degrees-are ∙ length-even (λ r. deg i r ∷ []) 1 (length (L i)) (λ k l. refl) ∙ omega arith

    pub degrees-at : (r : ℕ) → r < length (L i) → get_or (degrees table (suc i)) r 0 ≡ (rep_of (L i) r).deg
    degrees-at r l =
        let e : r ≡ r * 1 + 0 = omega arith in
        ap₂ (λ ds k. get_or ds k 0) degrees-are e ∙ get_or-even (λ r. deg i r ∷ []) 1 0 (length (L i)) r 0 (λ k a. refl) l (omega arith)

  -- ---- First lines

  pub first-line : (i r : ℕ) → i < n → r ≤ length (L i) → first_line n table (suc i) r ≡ sum i level_lines + sum r (rep_lines i)
  unfolding first_line columns rep_lines level_lines
  first-line i r a b =
      ap₂ (λ x y. n * (x + y)) (sum_below i _ (λ k. sum (length (L k)) (deg k)) (λ k l.
      ap (λ z. sum z (λ q. get_or (degrees table (suc k)) q 0)) (degrees-length k (omega arith))
      ∙ sum_below (length (L k)) _ (deg k) (degrees-at k (omega arith))))
      (sum_below r _ (deg i) (λ q l. degrees-at i a q (omega arith)))
      ∙ mul-add n (sum i (λ k. sum (length (L k)) (deg k))) (sum r (deg i))
      ∙ ap₂ (◌+◌) (sym (sum_below i level_lines (λ k. n * sum (length (L k)) (deg k)) (λ k l. sum-mul (length (L k)) n (deg k))
      ∙ sum-mul i n (λ k. sum (length (L k)) (deg k)))) (sym (sum-mul r n (deg i)))

  -- ---- Read back

  module _ (i : ℕ) (i_below : i < n) where
    abbrev M : Level
    M = level_at n table (suc i)

    start : ℕ → ℕ
    start r = sum i level_lines + sum r (rep_lines i)

    rep-read : (r : ℕ) → r < length (L i) → rep_of M r ≡ rep_at table (start r) (deg i r)
    unfolding rep_of level_at start
    rep-read r l =
        get_or-table (λ r. rep_at table (first_line n table (suc i) r) (get_or (degrees table (suc i)) r 0)) (length (degrees table (suc i))) r no_rep
        (subst (λ z. r < z) (sym (degrees-length i i_below)) l)
        ∙ ap₂ (rep_at table) (first-line i r i_below (omega arith)) (degrees-at i i_below r l)

    word_read : (r g c w : ℕ) → r < length (L i) → g < n → c < deg i r → w < line_words
        → word_at table (start r + g * deg i r + c) w ≡ get_or (line_of (suc i) r (rep_of (L i) r) g c) w 0
    unfolding start line_number
    word_read r g c w a b d e =
        let q : sum i level_lines + sum r (rep_lines i) + g * deg i r + c ≡ sum i level_lines + (sum r (rep_lines i) + (g * deg i r + c)) = omega arith in
        ap (λ z. word_at table z w) q ∙ word-at i r g c w i_below a b d e

    pub read_back : Agrees n (L i) (level_at n table (suc i))
    unfolding level_at rep_at line_of line_words
    read_back = record {
      same_length = sym (length-table _ (length (degrees table (suc i))) ∙ degrees-length i i_below);
      same_degree = λ r l. sym (ap (λ (D : Rep). D.deg) (rep-read r l));
      size = λ r g l a. ap (λ (D : Rep). length (D.matrix g)) (rep-read r l) ∙ length-table _ (deg i r) ∙ sym (ap (λ (D : Rep). D.deg) (rep-read r l));
      same_column = λ r g c l a b. sym (ap (λ (D : Rep). col (D.matrix g) c) (rep-read r l)
          ∙ col-table (λ c. entry (word_at table (start r + g * deg i r + c) 6) (word_at table (start r + g * deg i r + c) 7)) (deg i r) c b
          ∙ ap₂ entry (word_read r g c 6 l a b (omega arith)) (word_read r g c 7 l a b (omega arith)));
      same_ref = λ r g c l a b. sym (ap (λ (D : Rep). D.ref g c) (rep-read r l) ∙ word_read r g c 4 l a b (omega arith));
    }
