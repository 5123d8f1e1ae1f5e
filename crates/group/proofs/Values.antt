-- Powers and values of normal forms in any monoid.
--
--   power_zero, power-suc, power-one     the clauses of a power
--   power-add, power-mul                 powers of sums and of products
--   power-past, iter-past                what moves past an element moves past its powers
--   value-zero, value-suc, trivial-suc   the clauses of a value and of the trivial form
--   value-trivial                        the trivial form has value one
--   power-hom, value-hom                 homomorphisms keep powers and values
--   value-ext                            equal generators give equal values
--   power-ind, value-ind                 what holds of the generators and of products holds of values
use mathlib.Core.Path.{◌≡◌, refl, sym, ◌∙◌, ap, ap₂}
use Prim.Native.Nat.{ℕ, zero, suc, ◌+◌, ◌*◌ as ◌·◌, ◌<◌}
use native.Mathlib.Nat.{zero-add, suc-add, mul-zero}
use native.Mathlib.Omega.{arith}
use Rattle.definitions.specs.Lists.{iter}
use Rattle.definitions.specs.Presentation.{NF, trivial, Mul, power, value}
use Rattle.numbers.proofs.Lists.{iter-zero, iter-suc}
use Rattle.group.specs.Models.{Laws, Hom}

-- ---- Clauses

module _ {M : Type 0} (𝓜 : Mul M) where
  pub power_zero : (x : M) → power 𝓜 x zero ≡ 𝓜.one
  unfolding power
  power_zero x = refl

  pub power-suc : (x : M) (k : ℕ) → power 𝓜 x (suc k) ≡ 𝓜.mul x (power 𝓜 x k)
  unfolding power
  power-suc x k = refl

  pub value-zero : (h : ℕ → M) (x : NF 0) → value 𝓜 h 0 x ≡ 𝓜.one
  unfolding value
  value-zero h x = refl

  pub value-suc : (h : ℕ → M) (i : ℕ) (x : NF (suc i)) → value 𝓜 h (suc i) x ≡ 𝓜.mul (power 𝓜 (h i) x.0) (value 𝓜 h i x.1)
  unfolding value
  value-suc h i x = refl

  pub value-ext : (h h' : ℕ → M) (i : ℕ) → ((k : ℕ) → k < i → h k ≡ h' k) → (x : NF i) → value 𝓜 h i x ≡ value 𝓜 h' i x
  unfolding value
  value-ext h h' zero q x = refl
  value-ext h h' (suc i) q x = ap₂ (λ s t. 𝓜.mul (power 𝓜 s x.0) t) (q i (omega arith)) (value-ext h h' i (λ k l. q k (omega arith)) x.1)

  module _ (Q : M → Type 0) (q-one : Q 𝓜.one) (q-mul : (x y : M) → Q x → Q y → Q (𝓜.mul x y)) where
    pub power-ind : (x : M) → Q x → (k : ℕ) → Q (power 𝓜 x k)
    unfolding power
    power-ind x q zero = q-one
    power-ind x q (suc k) = q-mul _ _ q (power-ind x q k)

    pub value-ind : (h : ℕ → M) (i : ℕ) → ((k : ℕ) → k < i → Q (h k)) → (x : NF i) → Q (value 𝓜 h i x)
    unfolding value
    value-ind h zero q x = q-one
    value-ind h (suc i) q x = q-mul _ _ (power-ind (h i) (q i (omega arith)) x.0) (value-ind h i (λ k l. q k (omega arith)) x.1)

pub trivial-suc : (i : ℕ) → trivial (suc i) ≡ (0, trivial i)
unfolding trivial
trivial-suc i = refl

-- ---- Powers in a monoid

module _ {M : Type 0} {𝓜 : Mul M} (𝓛 : Laws 𝓜) where
  infixl 70 ◌*◌
  open 𝓜 use {mul as ◌*◌}
  open 𝓛 use {assoc, idl, idr}

  pub power-one : (x : M) → power 𝓜 x 1 ≡ x
  power-one x = rw (power-suc, power_zero, idr)

  pub power-add : (x : M) (k l : ℕ) → power 𝓜 x (k + l) ≡ power 𝓜 x k * power 𝓜 x l
  power-add x zero l = simp (zero-add, power_zero, idl)
  power-add x (suc k) l = simp (suc-add, power-suc, power-add x k l, assoc)

  pub power-mul : (x : M) (k l : ℕ) → power 𝓜 x (k · l) ≡ power 𝓜 (power 𝓜 x k) l
  power-mul x k zero = simp (mul-zero, power_zero)
  power-mul x k (suc l) = let q : k · suc l ≡ k + k · l = omega arith in rw (q) (simp (power-suc, power-add, power-mul x k l))

  -- h y = x h gives h y^k = x^k h
  pub power-past : (h x y : M) → h * y ≡ x * h → (k : ℕ) → h * power 𝓜 y k ≡ power 𝓜 x k * h
  power-past h x y r zero = simp (power_zero, idl, idr)
  power-past h x y r (suc k) = simp (power-suc, assoc, ← power-past h x y r k) (sym (assoc h y _) ∙ ap (λ t. t * power 𝓜 y k) r ∙ assoc x h _)

  -- what f does to values beside g, its iterates do beside the powers of g
  pub iter-past : {A : Type 0} (ψ : A → M) (g : M) (f : A → A) → ((x : A) → g * ψ (f x) ≡ ψ x * g) → (k : ℕ) (x : A)
      → power 𝓜 g k * ψ (iter f k x) ≡ ψ x * power 𝓜 g k
  iter-past ψ g f r zero x = simp (power_zero, iter-zero, idl, idr)
  iter-past ψ g f r (suc k) x = simp (power-suc, iter-suc, assoc, iter-past ψ g f r k (f x)) (sym (assoc _ _ _) ∙ ap (λ t. t * power 𝓜 g k) (r x) ∙ assoc _ _ _)

  pub value-trivial : (h : ℕ → M) (i : ℕ) → value 𝓜 h i (trivial i) ≡ 𝓜.one
  value-trivial h zero = value-zero 𝓜 h _
  value-trivial h (suc i) = value-suc 𝓜 h i _ ∙ simp (trivial-suc, power_zero, value-trivial h i, idl)

-- ---- Homomorphisms

module _ {A B : Type 0} {𝓐 : Mul A} {𝓑 : Mul B} {φ : A → B} (H : Hom 𝓐 𝓑 φ) where
  pub power-hom : (x : A) (k : ℕ) → φ (power 𝓐 x k) ≡ power 𝓑 (φ x) k
  power-hom x zero = simp (power_zero, H.on_one)
  power-hom x (suc k) = simp (power-suc, H.on_mul, power-hom x k)

  pub value-hom : (h : ℕ → A) (i : ℕ) (x : NF i) → φ (value 𝓐 h i x) ≡ value 𝓑 (λ k. φ (h k)) i x
  unfolding value
  value-hom h zero x = H.on_one
  value-hom h (suc i) x = H.on_mul _ _ ∙ ap₂ 𝓑.mul (power-hom (h i) x.0) (value-hom h i x.1)
