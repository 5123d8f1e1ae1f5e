-- What one step up the chief series needs of the groups: a group G of finite order, its cyclic extension G⁺ by
-- generator i, and how the generators up to n - 1 act on both by conjugation.
--
--   Extension 𝓖 𝓖⁺ conj conj⁺ i n
use Rattle.std.specs.Prelude.{◌≡◌, ℕ, ◌≤◌, ◌<◌}
use Rattle.definitions.specs.Lists.{iter}
use Rattle.definitions.specs.Presentation.{Mul, power}
use Rattle.group.specs.Models.{Laws, Hom}

pub record Extension {G G⁺ : Type 0} (𝓖 : Mul G) (𝓖⁺ : Mul G⁺) (conj : ℕ → G → G) (conj⁺ : ℕ → G⁺ → G⁺) (i n : ℕ) : Type 1 where
  pub in_range : i < n
  -- the group
  pub laws : Laws 𝓖
  pub inv : G → G
  pub inv_right : (x : G) → 𝓖.mul x (inv x) ≡ 𝓖.one
  pub inv_left : (x : G) → 𝓖.mul (inv x) x ≡ 𝓖.one
  pub order : ℕ
  pub order_pos : 0 < order
  pub order_one : (x : G) → power 𝓖 x order ≡ 𝓖.one
  -- conjugation by a generator has finite order
  pub period : ℕ → ℕ
  pub period_pos : (j : ℕ) → 0 < period j
  pub conj_period : (j : ℕ) → i ≤ j → j < n → (x : G) → iter (conj j) (period j) x ≡ x
  -- generator i: its prime and its power
  pub p : ℕ
  pub two : 1 < p
  pub u : G
  pub conj_u : conj i u ≡ u
  pub inner : (x : G) → 𝓖.mul u (iter (conj i) p x) ≡ 𝓖.mul x u
  -- the extension: its elements are powers of generator i times elements of the group
  pub low : G → G⁺
  pub low_hom : Hom 𝓖 𝓖⁺ low
  pub top : G⁺
  pub exponent : G⁺ → ℕ
  pub rest : G⁺ → G
  pub decompose : (x : G⁺) → x ≡ 𝓖⁺.mul (power 𝓖⁺ top (exponent x)) (low (rest x))
  pub exponent_low : (x : G) → exponent (low x) ≡ 0
  pub rest_low : (x : G) → rest (low x) ≡ x
  pub exponent_top : exponent top ≡ 1
  pub rest_top : rest top ≡ 𝓖.one
  pub low_top : (x : G) → 𝓖⁺.mul (low x) top ≡ 𝓖⁺.mul top (low (conj i x))
  pub top_power : power 𝓖⁺ top p ≡ low u
  -- a homomorphism of the group extends by an element that moves past it as generator i does
  pub extend : {M : Type 0} {𝓜 : Mul M} → Laws 𝓜 → (d : G → M) → Hom 𝓖 𝓜 d → (y : M) → ((x : G) → 𝓜.mul y (d (conj i x)) ≡ 𝓜.mul (d x) y) → power 𝓜 y p ≡ d u
      → Hom 𝓖⁺ 𝓜 (λ x. 𝓜.mul (power 𝓜 y (exponent x)) (d (rest x)))
  -- the generators above i: j⁻¹ i j is i to the power shift j, times an element of the group
  pub conj⁺-hom : (j : ℕ) → i < j → j < n → Hom 𝓖⁺ 𝓖⁺ (conj⁺ j)
  pub conj_low : (j : ℕ) → i < j → j < n → (x : G) → conj⁺ j (low x) ≡ low (conj j x)
  pub shift : ℕ → ℕ
  pub tail : ℕ → G
  pub conj_top : (j : ℕ) → i < j → j < n → conj⁺ j top ≡ 𝓖⁺.mul (power 𝓖⁺ top (shift j)) (low (tail j))
