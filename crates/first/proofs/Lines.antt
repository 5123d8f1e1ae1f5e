-- The lines of level 1, their lengths, and bounds of their numbers.
--
--   root_line-is               the eight words of a line
--   root_line-length, root_words-length, first_words-length     eight words for each line
--   root-room                  there is room for a power where there is room for all
--   word_read                  an exponent that was read from a word
--   product-fits               a product of numbers up to the order and up to the modulus
use mathlib.Core.Path.{◌≡◌, refl, ap, ◌∙◌}
use mathlib.Core.List.{List, [], ◌∷◌}
use Prim.Native.Nat.{ℕ, ◌+◌, ◌*◌, ◌≤◌, ◌<◌}
use native.Mathlib.Nat.{mul-le-mul}
use native.Mathlib.Numerals.{add-one}
use native.Mathlib.Omega.{arith}
use lib.ListN.{length, get_or}
use Rattle.definitions.specs.Presentation.{max_order, max_modulus, pair_number}
use Rattle.numbers.proofs.Blocks.{length-even}
use Rattle.lines.proofs.Appending.{Going, going-room}
use Rattle.first.specs.Roots.{root_ref, root_exp, root_line, root_words, first_words}

module _ (n p m : ℕ) (rows : List (List ℕ)) where
  pub root_line-is : (k g r e : ℕ) → r ≡ root_ref p rows k g → e ≡ root_exp p m k g → (1 ∷ k ∷ 1 ∷ (g + 1) ∷ r ∷ 0 ∷ 0 ∷ e ∷ []) ≡ root_line p m rows k g
  unfolding root_line
  root_line-is k g r e a b = λ o. 1 ∷ k ∷ 1 ∷ add-one g o ∷ a o ∷ 0 ∷ 0 ∷ b o ∷ []

  pub root_line-length : (k g : ℕ) → length (root_line p m rows k g) ≡ 8
  unfolding root_line
  root_line-length k g = refl

  pub root_words-length : (k : ℕ) → length (root_words n p m rows k) ≡ n * 8
  unfolding root_words
  root_words-length k = length-even (root_line p m rows k) 8 n (λ g l. root_line-length k g)

  pub first_words-length : length (first_words n p m rows) ≡ 8 * (p * n)
  unfolding first_words
  first_words-length = length-even (root_words n p m rows) (n * 8) p (λ k l. root_words-length k) ∙ regroup n p
    where
      regroup : (n p : ℕ) → p * (n * 8) ≡ 8 * (p * n)
      regroup n p = omega arith

  pub root-room : {w₀ w : List ℕ} {pos k : ℕ} → Going 0 (root_words n p m rows) w₀ 0 k w pos → k < p → 8 * (p * n) ≤ length w₀ → 8 * pos + 8 * n ≤ length w
  unfolding first_words
  root-room {w₀} {w} {pos} {k} G l h =
      let whole : 8 * 0 + length (first_words n p m rows) ≤ length w₀ = omega (arith, first_words-length) in
      omega (arith, going-room p G l whole, root_words-length k)

pub word_read : (rows : List (List ℕ)) (w : List ℕ) (j g : ℕ) → w ≡ get_or rows (pair_number j 0) [] → j ≡ g → get_or w 0 0 ≡ get_or (get_or rows (pair_number g 0) []) 0 0
word_read rows w j g a b = ap (λ x. get_or x 0 0) (a ∙ ap (λ i. get_or rows (pair_number i 0) []) b)

pub product-fits : (a b : ℕ) → a ≤ max_order → b ≤ max_modulus → a * b ≤ max_order * max_modulus
product-fits a b h l = mul-le-mul {n₁ = a} {m₁ = b} {n₂ = max_order} {m₂ = max_modulus} h l
