-- SOUND: in every model of a presentation the value of a product is the product of the values, and the value of a
-- conjugate is carried by the generator. Exponents may be any numbers.
--
--   Valued 𝓗 i      both statements at level i
--   sound          they hold in every model, on every level up to its own
use mathlib.Core.Path.{◌≡◌, sym, ◌∙◌, ap}
use mathlib.Core.Logic.{by_cases}
use Prim.Native.Nat.{ℕ, zero, suc, ◌+◌, ◌-◌, ◌≤◌, ◌<◌}
use native.Mathlib.Omega.{arith}
use native.Mathlib.Decide.{dec_lt}
use Rattle.definitions.specs.Presentation.{NF, trivial, Presentation, power, value}
use Rattle.definitions.specs.Consistency.{arithmetic, carry, mul_step, mul, conj, forms}
use Rattle.group.specs.Models.{Model}
use Rattle.group.proofs.Values.{power_zero, power-one, power-add, power-past, iter-past, value-suc, value-trivial}
use Rattle.group.proofs.Clauses.{carry-below, carry_over, mul-suc, conj-suc}

module _ {P : Presentation} {n : ℕ} {M : Type 0} (𝓗 : Model P n M) where
  infixl 70 ◌*◌
  open 𝓗 use {product as 𝓜, laws, h, satisfies}
  open 𝓗.product use {mul as ◌*◌}
  open 𝓗.laws use {assoc, idl, idr}

  abbrev v : (i : ℕ) → NF i → M
  v = value 𝓜 h

  pub record Valued (i : ℕ) : Type 0 where
    pub mul_value : (x y : NF i) → value 𝓜 h i (mul P i x y) ≡ value 𝓜 h i x * value 𝓜 h i y
    pub conj_value : (j : ℕ) → i ≤ j → j < n → (x : NF i) → h j * value 𝓜 h i (conj P i j x) ≡ value 𝓜 h i x * h j

  power-value : (i : ℕ) → ((x y : NF i) → v i (mul P i x y) ≡ v i x * v i y) → (x : NF i) (k : ℕ) → v i (power (forms P i) x k) ≡ power 𝓜 (v i x) k
  unfolding power
  power-value i r x zero = value-trivial laws h i
  power-value i r x (suc k) = r _ _ ∙ ap (λ t. v i x * t) (power-value i r x k)

  carry-value : (i : ℕ) (S : Valued i) (s : ℕ) (z : NF i) → i < n → v (suc i) (carry (P.p i) (mul P i) (P.u i) s z) ≡ power 𝓜 (h i) s * v i z
  carry-value i S s z l = by_cases (dec_lt s (P.p i))
      (λ q. ap (v (suc i)) (carry-below (P.p i) (mul P i) (P.u i) s z q) ∙ value-suc 𝓜 h i _)
      (λ q. let t : s - P.p i + P.p i ≡ s = omega arith in
      ap (v (suc i)) (carry_over (P.p i) (mul P i) (P.u i) s z (omega arith)) ∙ value-suc 𝓜 h i _
      ∙ simp (S.mul_value, ← satisfies.powers i l) (sym (assoc _ _ _) ∙ ap (λ t. t * v i z) (sym (power-add laws (h i) _ _) ∙ ap (power 𝓜 (h i)) t)))

  mul-step : (i : ℕ) (S : Valued i) → i < n → (x y : NF (suc i)) → v (suc i) (mul P (suc i) x y) ≡ v (suc i) x * v (suc i) y
  unfolding mul_step
  mul-step i S l x y =
      let past = iter-past laws (v i) (h i) (conj P i i) (λ t. S.conj_value i (omega arith) l t) y.0 x.1 in
      rw mul-suc (carry-value i S _ _ l ∙ simp (power-add laws, S.mul_value, value-suc, assoc)
      (ap (λ t. power 𝓜 (h i) x.0 * t) (sym (assoc _ _ _) ∙ ap (λ t. t * v i y.1) past ∙ assoc _ _ _)))

  conj-step : (i : ℕ) (S : Valued i) → i < n → (j : ℕ) → suc i ≤ j → j < n → (x : NF (suc i)) → h j * v (suc i) (conj P (suc i) j x) ≡ v (suc i) x * h j
  conj-step i S l j a b x =
      let ms = mul-step i S l in
      let below : (y : NF i) → v (suc i) (0, y) ≡ v i y = λ y. value-suc 𝓜 h i _ ∙ simp (power_zero, idl) in
      let top : v (suc i) (1, trivial i) ≡ h i = value-suc 𝓜 h i _ ∙ simp (power-one laws, value-trivial laws, idr) in
      let one-step = ap (λ t. h j * (t * v (suc i) (P.w i j))) top ∙ sym (satisfies.commutators i j a b) in
      rw conj-suc (simp (ms, power-value (suc i) ms, below, value-suc 𝓜 h i x, assoc)
      (sym (assoc _ _ _) ∙ ap (λ t. t * v i (conj P i j x.1)) (power-past laws (h j) (h i) _ one-step x.0) ∙ assoc _ _ _
      ∙ ap (λ t. power 𝓜 (h i) x.0 * t) (S.conj_value j (omega arith) b x.1)))

  pub sound : (i : ℕ) → i ≤ n → Valued i
  unfolding value arithmetic
  sound zero l = record { mul_value = λ x y. sym (idl _); conj_value = λ j a b x. simp (idl, idr) }
  sound (suc i) l = let S = sound i (omega arith) in record { mul_value = mul-step i S l; conj_value = conj-step i S l }
