-- Primality by trial division: a composite number has a divisor above 1 whose square is at most it.
--
--   not-prime-small        below 2
--   not-prime-divided      a divisor from 2 on, below the number
--   Tried, tried-none, tried-more       no divisor below d
--   prime-tried            none up to the root: prime
--   square-fits, root_below, root-less   bounds of the trial divisors
use mathlib.Core.Path.{◌≡◌, refl, sym, ap, ◌∙◌}
use mathlib.Core.Logic.{by_cases}
use mathlib.Core.Bool.{Bool, true, false, ◌&&◌, ◌||◌, not, false≢true}
use Prim.Native.Nat.{ℕ, zero, suc, ◌+◌, ◌*◌, ◌/◌, ◌%◌, ◌<◌, ◌≤◌}
use native.Mathlib.Nat.{div-add-mod', mul-le-mul, mul-mod_left, mul_comm}
use native.Mathlib.Decide.{dec_lt, ℕ_discrete}
use native.Mathlib.Omega.{arith}
use lib.Dec.{ltb, eqb}
use borrow.Author.Tests.{lt-ltb, le-ltb, eq-eqb, ne_eqb}
use Rattle.definitions.specs.Lists.{all_below}
use Rattle.definitions.specs.Text.{largest}
use Rattle.definitions.specs.Presentation.{is_prime}
use Rattle.numbers.proofs.Lists.{all_below-elim, all_below-intro}

-- d is no divisor that counts
abbrev passed : ℕ → ℕ → Bool
passed p d = ltb d 2 || not (eqb (p % d) 0)

pub not-prime-small : (p : ℕ) → p < 2 → is_prime p ≡ false
unfolding is_prime
not-prime-small p l = ap (λ (b : Bool). b && all_below p (passed p)) (le-ltb 1 p (omega arith))

pub not-prime-divided : (p d : ℕ) → 2 ≤ d → d < p → p % d ≡ 0 → is_prime p ≡ false
unfolding is_prime
not-prime-divided p d a b q = fails (ltb 1 p) (all_below p (passed p)) (λ h. false≢true (sym divides ∙ all_below-elim p (passed p) h d b))
  where
    divides : passed p d ≡ false
    divides = rw (le-ltb d 2 a, eq-eqb (p % d) 0 q)

    fails : (x y : Bool) → (y ≡ true → ⊥) → (x && y) ≡ false
    fails true true h = absurd (h refl)
    fails true false h = refl
    fails false y h = refl

-- no divisor from 2 on below d
abbrev pub Tried : ℕ → ℕ → Type 0
Tried p d = (e : ℕ) → 2 ≤ e → e < d → p % e ≡ 0 → ⊥

pub tried-none : (p : ℕ) → Tried p 2
tried-none p e a b q = omega arith

pub tried-more : (p d : ℕ) → Tried p d → (p % d ≡ 0 → ⊥) → Tried p (d + 1)
tried-more p d h n e a b q = by_cases (ℕ_discrete e d) (λ s. n (ap (λ (k : ℕ). p % k) (sym s) ∙ q)) (λ s. h e a (omega arith) q)

-- the other factor of a divisor from d on lies below d
pub prime-tried : (p d : ℕ) → 2 ≤ p → Tried p d → p < d * d → is_prime p ≡ true
unfolding is_prime
prime-tried p d two h root = rw (lt-ltb 1 p two) (all_below-intro p (passed p) test)
  where
    test : (e : ℕ) → e < p → passed p e ≡ true
    test e l = pick (dec_lt e 2) (ℕ_discrete (p % e) 0)
      where
        none : 2 ≤ e → p % e ≡ 0 → ⊥
        none a q = split (dec_lt e d) (dec_lt (p / e) d)
          where
            product : p / e * e ≡ p
            product = omega (arith, div-add-mod' p e)

            split : Dec (e < d) → Dec (p / e < d) → ⊥
            split (yes b) _ = h e a b q
            split (no b) (yes c) =
                h (p / e) (large (p / e) product) c (ap (λ (k : ℕ). k % (p / e)) (sym product ∙ mul_comm (p / e) e) ∙ mul-mod_left e (p / e))
              where
                large : (f : ℕ) → f * e ≡ p → 2 ≤ f
                large zero m = absurd (omega arith)
                large (suc zero) m = absurd (omega arith)
                large (suc (suc f)) m = omega arith
            split (no b) (no c) = omega (arith, product, mul-le-mul {n₁ = d} {m₁ = d} {n₂ = p / e} {m₂ = e} (omega arith) (omega arith))

        pick : Dec (e < 2) → Dec (p % e ≡ 0) → passed p e ≡ true
        pick (yes a) _ = rw (lt-ltb e 2 a)
        pick (no a) (yes q) = absurd (none (omega arith) q)
        pick (no a) (no q) = rw (le-ltb e 2 (omega arith), ne_eqb (p % e) 0 q)

-- ---- Bounds of the trial

pub square-fits : (d : ℕ) → d ≤ 31623 → d * d ≤ 1000014129
square-fits d l = omega (arith, mul-le-mul {n₁ = d} {m₁ = d} {n₂ = 31623} {m₂ = 31623} l l)

pub root_below : (p d : ℕ) → p ≤ largest → d * d ≤ p → d < 31623
unfolding largest
root_below p d h l = by_cases (dec_lt d 31623)
    (λ m. m)
    (λ m. absurd (omega (arith, mul-le-mul {n₁ = 31623} {m₁ = 31623} {n₂ = d} {m₂ = d} (omega arith) (omega arith))))

pub root-less : (p d : ℕ) → 2 ≤ d → d * d ≤ p → d < p
root-less p d a l = omega (arith, mul-le-mul {n₁ = 2} {m₁ = d} {n₂ = d} {m₂ = d} a (omega arith))
