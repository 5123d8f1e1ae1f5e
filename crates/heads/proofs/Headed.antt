-- A table whose heads are in order is complete, and lists what the heads say.
--
--   headed-complete                  its lines are complete and in order
--   headed-whole                     its words are whole lines
--   headed-count, headed-degree      how many representations it lists, and their degrees
--   headed-first                     where they begin
use mathlib.Core.Path.{◌≡◌, sym, ◌∙◌, ap, ap₂, subst}
use mathlib.Core.Bool.{true}
use mathlib.Core.List.{List, [], ◌∷◌, map}
use Prim.Native.Nat.{ℕ, zero, suc, ◌+◌, ◌*◌, ◌%◌, ◌/◌, ◌≤◌, ◌<◌}
use native.Mathlib.Nat.{mod-lt, mod-add-div', mul-mod_right}
use native.Mathlib.Omega.{arith}
use lib.Dec.{eqb}
use lib.ListN.{length, get_or}
use lib.Seq.{ext_get_or}
use borrow.Author.Tests.{eq-eqb, lt-ltb}
use Rattle.definitions.specs.Lists.{upto, blocks, sum, same}
use Rattle.definitions.specs.Presentation.{line_words}
use Rattle.definitions.specs.Monomial.{entry, col, Rep, Level, rep_of, no_rep}
use Rattle.definitions.specs.Table.{DEG, ROW, EXP, line_of, level_words, word_at, line_count, first_line, rep_at, level_at, complete}
use Rattle.numbers.proofs.Bools.{and_intro}
use Rattle.numbers.proofs.Lists.{all_below-intro}
use Rattle.numbers.proofs.Sums.{sum-zero, sum-suc}
use Rattle.numbers.proofs.Blocks.{get_or-table, length-table, blocks-below}
use Rattle.monomial.proofs.Frames.{col-table}
use Rattle.clifford.proofs.Lines.{LevelsListed, table, table-length, rep_lines, level_lines, line_number, word-at, first-line, read_back}
use Rattle.clifford.proofs.Agreement.{agree-words}
use Rattle.clifford.proofs.Theorem.{same_self}
use Rattle.heads.specs.Heads.{LineHead, first_from, base_of, Headed}
use Rattle.heads.proofs.Positions.{first-zero, first-suc, base-zero, base-suc, position}

module _ (n : ℕ) (positive : 0 < n) (T : List ℕ) (H : Headed n T) where
  abbrev base : ℕ → ℕ
  base = base_of n T H.count

  abbrev at : ℕ → ℕ → ℕ
  at k r = first_from n T (base_of n T H.count k) r

  abbrev deg : ℕ → ℕ → ℕ
  deg k r = word_at T (first_from n T (base_of n T H.count k) r) DEG

  -- ---- The levels that begin where the heads say

  found : ℕ → ℕ → Rep
  found k r = rep_at T (at k r) (deg k r)

  level_of : ℕ → Level
  level_of k = map (found k) (upto (H.count k))

  level-count : (k : ℕ) → length (level_of k) ≡ H.count k
  unfolding level_of
  level-count k = length-table (found k) (H.count k)

  level-rep : (k r : ℕ) → r < H.count k → rep_of (level_of k) r ≡ found k r
  unfolding level_of rep_of
  level-rep k r l = get_or-table (found k) (H.count k) r no_rep l

  level-degree : (k r : ℕ) → r < H.count k → (rep_of (level_of k) r).deg ≡ deg k r
  unfolding found rep_at
  level-degree k r l = ap (λ (D : Rep). D.deg) (level-rep k r l)

  counted : (k r : ℕ) → r < length (level_of k) → r < H.count k
  counted k r l = subst (λ z. r < z) (level-count k) l

  listed : (k r : ℕ) → r < H.count k → r < length (level_of k)
  listed k r l = subst (λ z. r < z) (sym (level-count k)) l

  abbrev W : LevelsListed
  W = record {
    n = n;
    positive = positive;
    L = level_of;
    degree_pos = λ k r a b. subst (λ z. 0 < z) (sym (level-degree k r (counted k r b))) (H.heads k r a (counted k r b)).positive;
  }

  -- ---- Where their lines stand

  first-sum : (k r : ℕ) → r ≤ H.count k → base k + sum r (rep_lines W k) ≡ at k r
  first-sum k zero l = omega (arith, sum-zero (rep_lines W k), first-zero n T (base k))
  first-sum k (suc r) l =
      let e : rep_lines W k r ≡ n * deg k r = unfold rep_lines in (ap (λ d. n * d) (level-degree k r l)) in
      omega (arith, sum-suc r (rep_lines W k), first-sum k r (omega arith), first-suc n T (base k) r, e)

  base_sum : (k : ℕ) → sum k (level_lines W) ≡ base k
  base_sum zero = sum-zero (level_lines W) ∙ sym (base-zero n T H.count)
  base_sum (suc k) =
      let e : level_lines W k ≡ sum (H.count k) (rep_lines W k) = unfold level_lines in (ap (λ z. sum z (rep_lines W k)) (level-count k)) in
      omega (arith, sum-suc k (level_lines W), base_sum k, e, first-sum k (H.count k) (omega arith), base-suc n T H.count k)

  number_is : (k r g c : ℕ) → r < H.count k → line_number W k r g c ≡ at k r + g * deg k r + c
  unfolding line_number
  number_is k r g c l =
      ap₂ (λ b d. b + (sum r (rep_lines W k) + (g * d + c))) (base_sum k) (level-degree k r l)
      ∙ omega (arith, first-sum k r (omega arith))

  -- ---- Their words are those of the table

  word-is : (k r g c w : ℕ) → k < n → r < H.count k → g < n → c < deg k r → w < line_words
      → word_at T (at k r + g * deg k r + c) w ≡ get_or (line_of (suc k) r (rep_of (level_of k) r) g c) w 0
  unfolding line_of line_words found rep_at
  word-is k r g c w a b d e f = go w f ((H.heads k r a b).head g c d e)
    where
      D : Rep
      D = rep_of (level_of k) r

      l : ℕ
      l = at k r + g * deg k r + c

      cols : col (D.matrix g) c ≡ entry (word_at T l ROW) (word_at T l EXP)
      cols =
          ap (λ (D : Rep). col (D.matrix g) c) (level-rep k r b)
          ∙ col-table (λ c. entry (word_at T (at k r + g * deg k r + c) ROW) (word_at T (at k r + g * deg k r + c) EXP)) (deg k r) c e

      go : (w : ℕ) → w < 8 → LineHead T l (suc k) r (deg k r) g c
          → word_at T l w ≡ get_or (suc k ∷ r ∷ D.deg ∷ suc g ∷ D.ref g c ∷ c ∷ (col (D.matrix g) c).row ∷ (col (D.matrix g) c).exp ∷ []) w 0
      go zero b h = h.level
      go (suc zero) b h = h.rep
      go (suc (suc zero)) l h = h.deg ∙ sym (level-degree k r b)
      go (suc (suc (suc zero))) b h = h.gen
      go (suc (suc (suc (suc zero)))) l h = sym (ap (λ (D : Rep). D.ref g c) (level-rep k r b))
      go (suc (suc (suc (suc (suc zero))))) b h = h.col
      go (suc (suc (suc (suc (suc (suc zero)))))) b h = ap (λ x. x.row) (sym cols)
      go (suc (suc (suc (suc (suc (suc (suc zero))))))) b h = ap (λ x. x.exp) (sym cols)
      go (suc (suc (suc (suc (suc (suc (suc (suc w)))))))) b h = absurd (omega arith)

  table_is : T ≡ table W
  unfolding word_at line_words line_count
  table_is = ext_get_or 0 T (table W) (H.whole ∙ sym (table-length W ∙ ap (λ z. line_words * z) (base_sum n ∙ H.ends))) same_word
    where
      same_word : (x : ℕ) → x < length T → get_or T x 0 ≡ get_or (table W) x 0
      same_word x h =
          let w : ℕ = x % 8 in
          let w-below : w < 8 = mod-lt x (omega arith) in
          let split : x ≡ line_words * (x / 8) + w = omega (arith, mod-add-div' x 8) in
          let p = position n T H (x / 8) (omega (arith, H.whole)) in
          let line : line_number W p.k p.r p.g p.c ≡ x / 8 = number_is p.k p.r p.g p.c p.r_below ∙ p.is in
          let c_below = subst (λ d. p.c < d) (sym (level-degree p.k p.r p.r_below)) p.c_below in
          ap (λ z. get_or T z 0) (split ∙ ap (λ l. line_words * l + w) (sym p.is))
          ∙ word-is p.k p.r p.g p.c w p.k_below p.r_below p.g_below p.c_below w-below
          ∙ sym (word-at W p.k p.r p.g p.c w p.k_below (listed p.k p.r p.r_below) p.g_below c_below w-below)
          ∙ ap (λ l. get_or (table W) (line_words * l + w) 0) line ∙ ap (λ z. get_or (table W) z 0) (sym split)

  -- ---- What the table lists

  pub headed-count : (k : ℕ) → k < n → length (level_at n T (suc k)) ≡ H.count k
  headed-count k l = ap (λ T. length (level_at n T (suc k))) table_is ∙ sym (read_back W k l).same_length ∙ level-count k

  pub headed-degree : (k r : ℕ) → k < n → r < H.count k
      → (rep_of (level_at n T (suc k)) r).deg ≡ word_at T (first_from n T (base_of n T H.count k) r) DEG
  headed-degree k r l h =
      ap (λ T. (rep_of (level_at n T (suc k)) r).deg) table_is ∙ sym ((read_back W k l).same_degree r (listed k r h)) ∙ level-degree k r h

  pub headed-first : (k r : ℕ) → k < n → r ≤ H.count k → first_line n T (suc k) r ≡ first_from n T (base_of n T H.count k) r
  headed-first k r l h =
      ap (λ T. first_line n T (suc k) r) table_is ∙ first-line W k r l (omega (arith, level-count k))
      ∙ ap (λ b. b + sum r (rep_lines W k)) (base_sum k) ∙ first-sum k r h

  pub headed-whole : eqb (length T % line_words) 0 ≡ true
  headed-whole = eq-eqb _ _ (ap (λ z. z % line_words) H.whole ∙ mul-mod_right line_words _)

  pub headed-complete : complete n T ≡ true
  unfolding complete
  headed-complete =
      and_intro _ _ (all_below-intro n _ (λ k l. lt-ltb _ _ (subst (λ z. 0 < z) (sym (headed-count k l)) (H.some k l))))
      (ap (same T) (sym lines) ∙ same_self T)
    where
      lines : T ≡ blocks n (λ k. level_words n (suc k) (level_at n T (suc k)))
      lines = table_is ∙ unfold table in (blocks-below n (λ k. level_words n (suc k) (level_of k)) (λ k. level_words n (suc k) (level_at n T (suc k))) again)
        where
          again : (k : ℕ) → k < n → level_words n (suc k) (level_of k) ≡ level_words n (suc k) (level_at n T (suc k))
          again k l =
              agree-words n (suc k) (level_of k) (level_at n (table W) (suc k)) (read_back W k l)
              ∙ ap (λ T. level_words n (suc k) (level_at n T (suc k))) (sym table_is)
