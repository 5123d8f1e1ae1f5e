-- Primes by the test of the definitions: no divisors, and inverses modulo a prime.
--
--   prime-two           a prime is above 1
--   prime-divisor       its only divisor above 1 is itself
--   Units p             what p does not divide has an inverse modulo p
--   prime-units         a prime has units
use mathlib.Core.Path.{◌≡◌, ap}
use mathlib.Core.Logic.{by_cases}
use mathlib.Core.Bool.{true, ◌||◌, not}
use Prim.Native.Nat.{ℕ, zero, suc, ◌+◌, ◌*◌, ◌-◌, ◌%◌, ◌/◌, ◌≤◌, ◌<◌, ◌∣◌}
use native.Mathlib.Nat.{mod-lt, mod-add-div', mul-pos, mul-le-mul, le_of_dvd, dvd_of_mod-eq-zero, mod-eq-zero_of_dvd}
use native.Mathlib.Omega.{arith}
use native.Mathlib.Decide.{ℕ_discrete}
use lib.Dec.{eqb, ltb}
use borrow.Author.Tests.{ltb-true, eqb-false, not-true}
use Rattle.definitions.specs.Lists.{all_below}
use Rattle.definitions.specs.Presentation.{is_prime}
use Rattle.numbers.proofs.Bools.{and_left, and_right, OneOf, first, second, or_cases}
use Rattle.numbers.proofs.Lists.{all_below-elim}

abbrev pub Units : ℕ → Type 0
Units p = (k : ℕ) → ¬ (p ∣ k) → (k' : ℕ) × (s : ℕ) × (k * k' ≡ 1 + s * p)

module _ (p : ℕ) (prime : is_prime p ≡ true) where
  pub prime-two : 1 < p
  unfolding is_prime
  prime-two = ltb-true 1 p (and_left (ltb 1 p) (all_below p (λ d. ltb d 2 || not (eqb (p % d) 0))) prime)

  pub prime-divisor : (d : ℕ) → 1 < d → d ∣ p → d ≡ p
  unfolding is_prime
  prime-divisor d l h =
      let none = all_below-elim p (λ d. ltb d 2 || not (eqb (p % d) 0)) (and_right (ltb 1 p) (all_below p (λ d. ltb d 2 || not (eqb (p % d) 0))) prime) in
      let divides : OneOf (ltb d 2) (not (eqb (p % d) 0)) → ⊥
      = elim [ first q ↦ omega (arith, ltb-true d 2 q) | second q ↦ eqb-false (p % d) 0 (not-true _ q) (mod-eq-zero_of_dvd d h) ] in
      let a : ¬ (d < p) = λ q. divides (or_cases (ltb d 2) (not (eqb (p % d) 0)) (none d q)) in
      let b : d ≤ p = le_of_dvd (omega (arith, prime-two)) h in omega arith

  -- ---- Inverses, by division with remainder of p

  abbrev Inverse : ℕ → Type 0
  Inverse k = (k' : ℕ) × (s : ℕ) × (k * k' ≡ 1 + s * p)

  -- p = k q + r: an inverse of r gives one of k
  up : (k q r : ℕ) → k * q + r ≡ p → 0 < r → r < p → Inverse r → Inverse k
  up k q r e hr lr (r', s, h) =
      let p₀ : ℕ = p - 1 in
      let hp : p ≡ suc p₀ = omega (arith, prime-two) in
      let big : ¬ (r' ≤ s) = λ o. omega (arith, mul-le-mul {n₁ = r} {m₁ = r'} {n₂ = p} {m₂ = s} (omega arith) (omega arith)) in
      let d : ℕ = r' - s in
      let hd : r' ≡ s + d = omega arith in
      let w : ℕ = d * p₀ - 1 in
      let hw : suc w ≡ d * p₀ = let z = mul-pos {m = d} {n = p₀} (omega arith) (omega (arith, prime-two)) in omega arith in
      let h₁ : (k * q + r) * (r' * p₀) ≡ p * (r' * p₀) = ap (λ x. x * (r' * p₀)) e in
      let h₂ : r * r' * p₀ ≡ (1 + s * p) * p₀ = ap (λ x. x * p₀) h in
      let h₃ : suc w * p ≡ d * p₀ * p = ap (λ x. x * p) hw in
      let h₄ : p * (r' * p₀) ≡ p * ((s + d) * p₀) = ap (λ x. p * (x * p₀)) hd in
      (q * (r' * p₀), w, omega arith)

  small : (f k : ℕ) → k ≤ f → 0 < k → k < p → Inverse k
  small zero k a b c = absurd (omega arith)
  small (suc f) k a b c = by_cases (ℕ_discrete k 1) (λ o. (1, 0, omega arith)) (λ o.
      let l : p % k < k = mod-lt p b in
      let nz : ¬ (p % k ≡ 0) = λ z. omega (arith, prime-divisor k (omega arith) (dvd_of_mod-eq-zero k z)) in
      up k (p / k) (p % k) (omega (arith, mod-add-div' p k)) (omega arith) (omega arith) (small f (p % k) (omega arith) (omega arith) (omega arith)))

  pub prime-units : Units p
  prime-units k nd =
      let l : k % p < p = mod-lt k (omega (arith, prime-two)) in
      let nz : ¬ (k % p ≡ 0) = λ z. nd (dvd_of_mod-eq-zero p z) in
      let (k', s, h) = small (k % p) (k % p) (omega arith) (omega arith) l in
      (k', s + k / p * k', omega (arith, ap (λ x. x * k') (mod-add-div' k p)))
