-- Searches of the definitions: the least number that passes a test, and tests of some number.
--
--   any_below-elim, any_below-intro      some number below n passes
--   any_below-fails                     none does
--   any_below-below                     two tests that agree below n
--   least-found, least-least           where one passes, least finds one, and none below it passes
--   least-is                           it finds the number that passes, if no other does
use mathlib.Core.Path.{◌≡◌, refl, sym, ◌∙◌, ap, ap₂}
use mathlib.Core.Logic.{by_cases}
use mathlib.Core.Bool.{Bool, true, false, ◌||◌, false≢true}
use Prim.Native.Nat.{ℕ, zero, suc, ◌+◌, ◌≤◌, ◌<◌}
use native.Mathlib.Omega.{arith}
use native.Mathlib.Decide.{dec_lt}
use Rattle.definitions.specs.Lists.{any_below, least_from, least}
use Rattle.numbers.proofs.Bools.{first, second, or_cases, or_left, or_right, cond-true, cond-false}

pub any_below-intro : (n : ℕ) (q : ℕ → Bool) (k : ℕ) → k < n → q k ≡ true → any_below n q ≡ true
unfolding any_below
any_below-intro zero q k l h = absurd (omega arith)
any_below-intro (suc n) q k l h = by_cases (dec_lt k n) (λ a. or_left (any_below n q) (q n) (any_below-intro n q k a h))
    (λ a. let e : n ≡ k = omega arith in or_right (any_below n q) (q n) (ap q e ∙ h))

pub any_below-elim : (n : ℕ) (q : ℕ → Bool) → any_below n q ≡ true → (k : ℕ) × (k < n) × (q k ≡ true)
unfolding any_below
any_below-elim zero q h = absurd (false≢true h)
any_below-elim (suc n) q h = elim (or_cases (any_below n q) (q n) h) [
  | first a ↦ let (k, b, c) = any_below-elim n q a in (k, omega arith, c)
  | second a ↦ (n, omega arith, a)
]

pub any_below-fails : (n : ℕ) (q : ℕ → Bool) → ((k : ℕ) → k < n → q k ≡ false) → any_below n q ≡ false
unfolding any_below
any_below-fails zero q h = refl
any_below-fails (suc n) q h = ap₂ (◌||◌) (any_below-fails n q (λ k l. h k (omega arith))) (h n (omega arith))

pub any_below-below : (n : ℕ) (q q' : ℕ → Bool) → ((k : ℕ) → k < n → q k ≡ q' k) → any_below n q ≡ any_below n q'
unfolding any_below
any_below-below zero q q' h = refl
any_below-below (suc n) q q' h = ap₂ (◌||◌) (any_below-below n q q' (λ k l. h k (omega arith))) (h n (omega arith))

-- what is known of a search in n trials from k: it ends by k + n, nothing before its end passes, and its end passes
-- unless it is k + n
record Found (n k : ℕ) (q : ℕ → Bool) : Type 0 where
  low : k ≤ least_from n k q
  high : least_from n k q ≤ k + n
  before : (j : ℕ) → k ≤ j → j < least_from n k q → q j ≡ false
  passes : least_from n k q < k + n → q (least_from n k q) ≡ true

found : (n k : ℕ) (q : ℕ → Bool) → Found n k q
unfolding least_from
found zero k q = record { low = omega arith; high = omega arith; before = λ j a b. absurd (omega arith); passes = λ a. absurd (omega arith) }
found (suc n) k q = go (q k) refl (found n (suc k) q)
  where
    go : (b : Bool) → q k ≡ b → Found n (suc k) q → Found (suc n) k q
    go true e F =
        let z : least_from (suc n) k q ≡ k = cond-true (q k) k (least_from n (suc k) q) e in
        record { low = omega arith; high = omega arith; before = λ j a b. absurd (omega arith); passes = λ a. ap q z ∙ e }
    go false e F =
        let z : least_from (suc n) k q ≡ least_from n (suc k) q = cond-false (q k) k (least_from n (suc k) q) e in
        record {
          low = omega (arith, F.low);
          high = omega (arith, F.high);
          before = λ j a b. by_cases (dec_lt k j) (λ c. F.before j c (omega arith)) (λ c. let s : j ≡ k = omega arith in ap q s ∙ e);
          passes = λ a. ap q z ∙ F.passes (omega arith);
        }

module _ (n : ℕ) (q : ℕ → Bool) where
  abbrev F : Found n 0 q
  F = found n 0 q

  pub least-least : (j : ℕ) → q j ≡ true → least n q ≤ j
  unfolding least
  least-least j h = let n : ¬ (j < least_from n 0 q) = λ a. false≢true (sym (F.before j (omega arith) a) ∙ h) in omega arith

  pub least-found : (k : ℕ) → k < n → q k ≡ true → (least n q < n) × (q (least n q) ≡ true)
  unfolding least
  least-found k l h = let a : least_from n 0 q ≤ k = least-least k h in (omega arith, F.passes (omega arith))

  pub least-is : (k : ℕ) → k < n → q k ≡ true → ((j : ℕ) → j < n → q j ≡ true → j ≡ k) → least n q ≡ k
  least-is k l h one = let (a, b) = least-found k l h in one (least n q) a b
