-- Maps above a numbered family: products, powers and values lie above those of the family.
--
--   over-one, over-mul, over-power, over-value      what is built from maps above lies above
--   over-same                                       basis indices known by base and number: maps above one family are one
use mathlib.Core.Path.{◌≡◌, refl, sym, ◌∙◌, ap, ap₂, fun_ext}
use Prim.Native.Nat.{ℕ, zero, suc, ◌<◌}
use native.Mathlib.Omega.{arith}
use Rattle.definitions.specs.Presentation.{NF, power, value}
use Rattle.monomial.specs.Exponents.{Exponents}
use Rattle.monomial.specs.Maps.{Map, compose, maps}
use Rattle.monomial.specs.Over.{Over}

module _ {E : Type 0} (𝓔 : Exponents E) {Ω Ω' : Type 0} (base : Ω' → Ω) (number : Ω' → ℕ) where
  abbrev over : (ℕ → Map 𝓔 Ω) → Map 𝓔 Ω' → Type 0
  over = Over 𝓔 base number

  pub over-one : over (λ κ. (maps 𝓔 Ω).one) (maps 𝓔 Ω').one
  unfolding maps
  over-one x = record { is_base = refl; is_number = refl; is_exponent = refl }

  pub over-mul : (A B : ℕ → Map 𝓔 Ω) (A' B' : Map 𝓔 Ω') → over A A' → over B B' → over (λ κ. (maps 𝓔 Ω).mul (A κ) (B κ)) ((maps 𝓔 Ω').mul A' B')
  unfolding maps compose
  over-mul A B A' B' p q x =
      let r = p (B' x).0 in
      let s = q x in
      record {
        is_base = r.is_base ∙ ap₂ (λ κ b. (A κ b).0) s.is_number s.is_base;
        is_number = r.is_number ∙ s.is_number;
        is_exponent = ap₂ 𝓔.add (r.is_exponent ∙ ap₂ (λ κ b. (A κ b).1) s.is_number s.is_base) s.is_exponent;
      }

  pub over-power : (A : ℕ → Map 𝓔 Ω) (A' : Map 𝓔 Ω') → over A A' → (k : ℕ) → over (λ κ. power (maps 𝓔 Ω) (A κ) k) (power (maps 𝓔 Ω') A' k)
  unfolding power
  over-power A A' p zero = over-one
  over-power A A' p (suc k) = over-mul A (λ κ. power (maps 𝓔 Ω) (A κ) k) A' (power (maps 𝓔 Ω') A' k) p (over-power A A' p k)

  pub over-value : (h : ℕ → ℕ → Map 𝓔 Ω) (h' : ℕ → Map 𝓔 Ω') (i : ℕ) → ((k : ℕ) → k < i → over (λ κ. h κ k) (h' k)) → (x : NF i)
      → over (λ κ. value (maps 𝓔 Ω) (h κ) i x) (value (maps 𝓔 Ω') h' i x)
  unfolding value
  over-value h h' zero q x = over-one
  over-value h h' (suc i) q x =
      over-mul (λ κ. power (maps 𝓔 Ω) (h κ i) x.0) (λ κ. value (maps 𝓔 Ω) (h κ) i x.1) (power (maps 𝓔 Ω') (h' i) x.0) (value (maps 𝓔 Ω') h' i x.1)
      (over-power (λ κ. h κ i) (h' i) (q i (omega arith)) x.0) (over-value h h' i (λ k l. q k (omega arith)) x.1)

  module _ (injective : (x y : Ω') → base x ≡ base y → number x ≡ number y → x ≡ y) where
    pub over-same : (A B : ℕ → Map 𝓔 Ω) (A' B' : Map 𝓔 Ω') → over A A' → over B B' → ((κ : ℕ) → A κ ≡ B κ) → A' ≡ B'
    over-same A B A' B' p q e = fun_ext (λ x. let same = ap (λ f. f (base x)) (e (number x)) in λ j. (
      injective (A' x).0 (B' x).0 ((p x).is_base ∙ ap (λ z. z.0) same ∙ sym (q x).is_base) ((p x).is_number ∙ sym (q x).is_number) j,
      ((p x).is_exponent ∙ ap (λ z. z.1) same ∙ sym (q x).is_exponent) j,
    ))
