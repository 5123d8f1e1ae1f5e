-- The clauses of product, conjugation, generators and the test of equality, stated once.
--
--   carry-below, carry_over          an exponent below the prime, and one that passes it
--   mul_step-below, mul_step-over      the same of a product
--   mul_step-map                      a map that keeps product, conjugation and power word keeps the product with carry
--   mul-suc, conj-suc                product and conjugation one level up
--   generator-below, generator-top   a generator one level up
--   same_form-eq, eq-same_form         the test of equality is true exactly of equal forms
use mathlib.Core.Path.{◌≡◌, refl, ap, ap₂}
use mathlib.Core.Logic.{by_cases}
use mathlib.Core.Bool.{true}
use Prim.Native.Nat.{ℕ, zero, suc, ◌+◌, ◌-◌, ◌≤◌, ◌<◌}
use native.Mathlib.Omega.{arith}
use native.Mathlib.Decide.{dec_lt}
use lib.Dec.{eqb}
use borrow.Author.Tests.{eqb-true, eq-eqb}
use Rattle.definitions.specs.Lists.{iter}
use Rattle.definitions.specs.Presentation.{NF, trivial, Presentation, power}
use Rattle.definitions.specs.Consistency.{arithmetic, arithmetic_step, carry, mul_step, conj_step, mul, conj, forms, generator, same_form}
use Rattle.numbers.proofs.Bools.{and_left, and_right, and_intro, cond-lt, cond-ge, cond-eq, cond-ne}
use Rattle.numbers.proofs.Lists.{iter-map}

module _ {A : Type 0} (p : ℕ) (m : A → A → A) where
  pub carry-below : (u : A) (s : ℕ) (z : A) → s < p → carry p m u s z ≡ (s, z)
  unfolding carry
  carry-below u s z l = cond-lt s p _ _ l

  pub carry_over : (u : A) (s : ℕ) (z : A) → p ≤ s → carry p m u s z ≡ (s - p, m u z)
  unfolding carry
  carry_over u s z l = cond-ge s p _ _ l

  pub mul_step-below : (f : A → A) (u : A) (x y : ℕ × A) → x.0 + y.0 < p → mul_step p m f u x y ≡ (x.0 + y.0, m (iter f y.0 x.1) y.1)
  unfolding mul_step
  mul_step-below f u x y l = carry-below u _ _ l

  pub mul_step-over : (f : A → A) (u : A) (x y : ℕ × A) → p ≤ x.0 + y.0 → mul_step p m f u x y ≡ (x.0 + y.0 - p, m u (m (iter f y.0 x.1) y.1))
  unfolding mul_step
  mul_step-over f u x y l = carry_over u _ _ l

pub mul_step-map : {A B : Type 0} (φ : A → B) (p : ℕ) (m : A → A → A) (f : A → A) (u : A) (m' : B → B → B) (f' : B → B)
    → ((x y : A) → φ (m x y) ≡ m' (φ x) (φ y)) → ((x : A) → φ (f x) ≡ f' (φ x))
    → (x y : ℕ × A) → ◌≡◌ {A = ℕ × B} ((mul_step p m f u x y).0, φ (mul_step p m f u x y).1) (mul_step p m' f' (φ u) (x.0, φ x.1) (y.0, φ y.1))
mul_step-map φ p m f u m' f' hm hf x y = by_cases (dec_lt (x.0 + y.0) p)
    (λ l. simp (mul_step-below p m f u x y l, mul_step-below p m' f' (φ u) (x.0, φ x.1) (y.0, φ y.1) l, hm, iter-map φ f f' hf))
    (λ n. let l : p ≤ x.0 + y.0 = omega arith in
    simp (mul_step-over p m f u x y l, mul_step-over p m' f' (φ u) (x.0, φ x.1) (y.0, φ y.1) l, hm, iter-map φ f f' hf))

module _ (P : Presentation) where
  pub mul-suc : (i : ℕ) (x y : NF (suc i)) → mul P (suc i) x y ≡ mul_step (P.p i) (mul P i) (conj P i i) (P.u i) x y
  unfolding arithmetic arithmetic_step
  mul-suc i x y = refl

  pub conj-suc : (i j : ℕ) (x : NF (suc i))
      → conj P (suc i) j x ≡ mul P (suc i) (power (forms P (suc i)) (mul P (suc i) (1, trivial i) (P.w i j)) x.0) (0, conj P i j x.1)
  unfolding arithmetic arithmetic_step conj_step
  conj-suc i j x = refl

pub generator-below : (i k : ℕ) → k < i → generator (suc i) k ≡ (0, generator i k)
unfolding generator
generator-below i k l = cond-ne k i _ _ (λ q. omega arith)

pub generator-top : (i : ℕ) → generator (suc i) i ≡ (1, trivial i)
unfolding generator
generator-top i = cond-eq i i _ _ refl

pub same_form-eq : (i : ℕ) (x y : NF i) → same_form i x y ≡ true → x ≡ y
unfolding same_form
same_form-eq zero x y h = refl
same_form-eq (suc i) x y h = ap₂ (λ s t. (s, t)) (eqb-true x.0 y.0 (and_left (eqb x.0 y.0) (same_form i x.1 y.1) h))
    (same_form-eq i x.1 y.1 (and_right (eqb x.0 y.0) (same_form i x.1 y.1) h))

pub eq-same_form : (i : ℕ) (x y : NF i) → x ≡ y → same_form i x y ≡ true
unfolding same_form
eq-same_form zero x y q = refl
eq-same_form (suc i) x y q = and_intro _ _ (eq-eqb x.0 y.0 (ap (λ z. z.0) q)) (eq-same_form i x.1 y.1 (ap (λ z. z.1) q))
