-- What is given for the numbers above i and below n, and something else for all others.
--
--   between       this as a function of all numbers
--   between_is    where it is given
use mathlib.Core.Path.{◌≡◌, ◌∙◌}
use mathlib.Core.Logic.{dite, dif_pos}
use Prim.Native.Nat.{ℕ, ◌<◌}
use native.Mathlib.Bridge.{le_prop}
use native.Mathlib.Decide.{dec_lt}

module _ {A : Type 0} (i n : ℕ) (f : (j : ℕ) → i < j → j < n → A) (z : A) where
  pub between : ℕ → A
  between j = dite (dec_lt i j) (λ a. dite (dec_lt j n) (f j a) (λ b. z)) (λ a. z)

  pub between_is : (j : ℕ) (ij : i < j) (jn : j < n) → between j ≡ f j ij jn
  unfolding between
  between_is j ij jn = dif_pos (dec_lt i j) le_prop ij (λ a. dite (dec_lt j n) (f j a) (λ b. z)) (λ a. z) ∙ dif_pos (dec_lt j n) le_prop jn (f j ij) (λ b. z)
