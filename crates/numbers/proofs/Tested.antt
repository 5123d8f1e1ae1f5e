-- A loop of tests.
--
--   Tested q k                   every number below k passes the test q
--   tested-none, tested-more     at the start, and one number more
--   tested-all, tested-fails     the answer of the loop
--   all-of_range                 the answer of `all` over the numbers below n
use mathlib.Core.Path.{◌≡◌, refl, sym, ◌∙◌, ap, ap₂}
use mathlib.Core.Bool.{Bool, true, false, ◌&&◌}
use Prim.Native.Nat.{ℕ, zero, suc, ◌+◌, ◌≤◌, ◌<◌}
use native.Mathlib.Omega.{arith}
use borrow.Author.Count.{below_more}
use Rattle.std.specs.List.{list_all, range_with_len}
use Rattle.std.proofs.Math.Bool.{and_assoc}
use Rattle.definitions.specs.Lists.{all_below}
use Rattle.numbers.proofs.Lists.{all_below-intro, all_below-fails}

pub record Tested (q : ℕ → Bool) (k : ℕ) : Type 0 where
  pub each : (m : ℕ) → m < k → q m ≡ true

module _ {q : ℕ → Bool} where
  pub tested-none : Tested q 0
  tested-none = record { each = λ m l. absurd (omega arith) }

  module _ {k : ℕ} (h : Tested q k) where
    pub tested-more : q k ≡ true → Tested q (k + 1)
    tested-more w = record { each = below_more (λ m. q m ≡ true) k h.each w }

    pub tested-all : {n : ℕ} → n ≤ k → true ≡ all_below n q
    tested-all {n} l = sym (all_below-intro n q (λ m b. h.each m (omega arith)))

    pub tested-fails : {n : ℕ} → k < n → q k ≡ false → false ≡ all_below n q
    tested-fails {n} l w = sym (all_below-fails n q k l w)

-- the numbers below n, as `all` goes over them
module _ (q : ℕ → Bool) where
  -- one number more at the end
  all-last : (a n : ℕ) → list_all q (range_with_len a (suc n)) ≡ (list_all q (range_with_len a n) && q (a + n))
  all-last a zero = let e : a ≡ a + 0 = omega arith in alone (q a) ∙ ap q e
    where
      alone : (b : Bool) → (b && true) ≡ b
      alone true = refl
      alone false = refl
  all-last a (suc n) = let e : a + 1 + n ≡ a + suc n = omega arith in
      ap (λ b. q a && b) (all-last (a + 1) n) ∙ sym (and_assoc (q a) _ _) ∙ ap (λ k. (q a && list_all q (range_with_len (a + 1) n)) && q k) e

  pub all-of_range : (n : ℕ) → list_all q (range_with_len 0 n) ≡ all_below n q
  unfolding all_below
  all-of_range zero = refl
  all-of_range (suc n) = all-last 0 n ∙ ap₂ (λ a b. a && b) (all-of_range n) (let e : 0 + n ≡ n = omega arith in ap q e)
