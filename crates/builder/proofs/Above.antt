-- The words of a level are those above each representation of the level below, one behind the other.
--
--   rep_words-length            the words of a representation: eight for each column of each generator
--   blocks-words               the words of a level whose representations are listed in stretches
--   given-length               a representation gives as many as are counted
--   above-given                the words of what a representation gives are those above it
--   level-above                the words of a level, representation by representation
--   above-fixed, above-led, above-none      those above one, by its case
--   fixed-length, led-length   how many they are
--   above-space                where there is room for the level, there is room for those above one
--   level-wrote                after the last representation the level is written
use mathlib.Core.Path.{◌≡◌, refl, ap, sym, ◌∙◌, subst}
use mathlib.Core.Bool.{Bool, true, false, cond}
use mathlib.Core.List.{List, [], ◌∷◌, map}
use Prim.Native.Nat.{ℕ, suc, ◌+◌, ◌*◌, ◌<◌, ◌≤◌}
use native.Mathlib.Omega.{arith}
use native.Mathlib.Nat.{add-zero}
use lib.ListN.{length}
use lib.Dec.{eqb}
use Rattle.definitions.specs.Lists.{upto, blocks, sum}
use Rattle.definitions.specs.Monomial.{Rep, Level, no_rep, rep_of}
use Rattle.definitions.specs.Table.{line_of, rep_words, level_words}
use Rattle.numbers.proofs.Bools.{cond-true, cond-false}
use Rattle.numbers.proofs.Lists.{length-blocks}
use Rattle.numbers.proofs.Sums.{sum_below}
use Rattle.numbers.proofs.Blocks.{get_or-table, length-table, get_or-blocks, blocks-below, blocks-stretches, length-even}
use Rattle.formulas.specs.Formulas.{Source, fixed, leader, made, start, extension_at, induction_at, given_at, level_by}
use Rattle.text.specs.Writing.{Wrote}
use Rattle.text.proofs.Writing.{wrote_as}
use Rattle.lines.proofs.Appending.{Going, going-room}
use Rattle.builder.specs.Above.{above_words}

-- ---- Words of representations

pub rep_words-length : (n i r : ℕ) (D : Rep) → length (rep_words n i r D) ≡ 8 * (n * D.deg)
unfolding rep_words line_of
rep_words-length n i r D =
    length-even _ (D.deg * 8) n (λ g l. length-even (λ c. line_of i r D g c) 8 D.deg (λ c h. refl)) ∙ regroup n D.deg
  where
    regroup : (n d : ℕ) → n * (d * 8) ≡ 8 * (n * d)
    regroup n d = omega arith

module _ (n i : ℕ) where
  -- the representations of a list, numbered from a
  abbrev words_from : ℕ → Level → List ℕ
  words_from a L = blocks (length L) (λ κ. rep_words n i (a + κ) (rep_of L κ))

  blocks-words : (N : ℕ) (f : ℕ → Level) → level_words n i (blocks N f) ≡ blocks N (λ s. words_from (sum s (λ k. length (f k))) (f s))
  unfolding level_words rep_of
  blocks-words N f =
      ap (λ c. blocks c (λ r. rep_words n i r (rep_of (blocks N f) r))) (length-blocks N f) ∙ blocks-stretches (λ k. length (f k)) N (λ r. rep_words n i r (rep_of (blocks N f) r))
      ∙ blocks-below N _ _ (λ s l. blocks-below (length (f s)) _ _ (λ κ h. ap (rep_words n i (sum s (λ k. length (f k)) + κ)) (get_or-blocks no_rep N f s κ l h)))

  -- extensions, one representation, or none
  given-words : (b c : Bool) (p a : ℕ) (E : ℕ → Rep) (I : Rep)
      → words_from a (cond b (map E (upto p)) (cond c (I ∷ []) [])) ≡ cond b (blocks p (λ k. rep_words n i (a + k) (E k))) (cond c (rep_words n i a I) [])
  unfolding rep_of blocks
  given-words true c p a E I =
      ap (λ z. blocks z (λ κ. rep_words n i (a + κ) (rep_of (map E (upto p)) κ))) (length-table E p)
      ∙ blocks-below p _ _ (λ κ l. ap (rep_words n i (a + κ)) (get_or-table E p κ no_rep l))
  given-words false true p a E I = ap (λ z. rep_words n i z I) (add-zero a)
  given-words false false p a E I = refl

given-count : (b c : Bool) (p : ℕ) (E : ℕ → Rep) (I : Rep) → length (cond b (map E (upto p)) (cond c (I ∷ []) [])) ≡ cond b p (cond c 1 0)
given-count true c p E I = length-table E p
given-count false true p E I = refl
given-count false false p E I = refl

-- ---- Above one

module _ (S : Source) where
  pub given-length : (r : ℕ) → length (given_at S r) ≡ made S r
  unfolding given_at made
  given-length r = given-count (fixed S r) (eqb (leader S r) r) S.p (extension_at S r) (induction_at S r)

  start-given : (r : ℕ) → sum r (λ k. length (given_at S k)) ≡ start S r
  unfolding start
  start-given r = sum_below r _ _ (λ k l. given-length k)

module _ (n : ℕ) (S : Source) where
  above-given : (r : ℕ) → words_from n (suc S.i) (start S r) (given_at S r) ≡ above_words n S r
  unfolding given_at above_words
  above-given r = given-words n (suc S.i) (fixed S r) (eqb (leader S r) r) S.p (start S r) (extension_at S r) (induction_at S r)

  pub level-above : level_words n (suc S.i) (level_by S) ≡ blocks S.count (above_words n S)
  unfolding level_by
  level-above =
      blocks-words n (suc S.i) S.count (given_at S)
      ∙ blocks-below S.count _ _ (λ r l. ap (λ a. words_from n (suc S.i) a (given_at S r)) (start-given S r) ∙ above-given r)

  pub above-fixed : (r : ℕ) → fixed S r ≡ true → above_words n S r ≡ blocks S.p (λ k. rep_words n (suc S.i) (start S r + k) (extension_at S r k))
  unfolding above_words
  above-fixed r h = cond-true (fixed S r) _ _ h

  pub above-led : (r : ℕ) → fixed S r ≡ false → eqb (leader S r) r ≡ true → above_words n S r ≡ rep_words n (suc S.i) (start S r) (induction_at S r)
  unfolding above_words
  above-led r h l = cond-false (fixed S r) _ _ h ∙ cond-true (eqb (leader S r) r) _ _ l

  pub above-none : (r : ℕ) → fixed S r ≡ false → eqb (leader S r) r ≡ false → above_words n S r ≡ []
  unfolding above_words
  above-none r h l = cond-false (fixed S r) _ _ h ∙ cond-false (eqb (leader S r) r) _ _ l

  -- ---- Lengths

  pub fixed-length : (r : ℕ) → fixed S r ≡ true → length (above_words n S r) ≡ S.p * (8 * (n * S.degree r))
  unfolding extension_at
  fixed-length r h =
      ap length (above-fixed r h)
      ∙ length-even _ (8 * (n * S.degree r)) S.p (λ k l. rep_words-length n (suc S.i) (start S r + k) (extension_at S r k))

  pub led-length : (r : ℕ) → fixed S r ≡ false → eqb (leader S r) r ≡ true → length (above_words n S r) ≡ 8 * (n * (S.p * S.degree r))
  unfolding induction_at
  led-length r h l = ap length (above-led r h l) ∙ rep_words-length n (suc S.i) (start S r) (induction_at S r)

-- ---- Room

module _ (n : ℕ) (S : Source) {low : ℕ} {w₀ : List ℕ} {at₀ : ℕ} where
  pub above-space : (r : ℕ) {w : List ℕ} {at : ℕ} → Going low (above_words n S) w₀ at₀ r w at → r < S.count → 8 * at₀ + length (level_words n (suc S.i) (level_by S)) ≤ length w₀
      → 8 * at + length (above_words n S r) ≤ length w
  above-space r G l h = going-room S.count G l (subst (λ s. 8 * at₀ + length s ≤ length w₀) (level-above n S) h)

  pub level-wrote : {w : List ℕ} {at : ℕ} → Going low (above_words n S) w₀ at₀ S.count w at → Wrote w₀ (8 * at₀) (level_words n (suc S.i) (level_by S)) w (8 * at)
  level-wrote G = wrote_as G.wrote (sym (level-above n S))
