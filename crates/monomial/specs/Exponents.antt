-- Exponents of monomial matrices: any abelian group.
--
--   Exponents E        a sum, a zero and negatives
--   total 𝓔 g n        g 0 + g 1 + .. + g (n - 1)
--   times 𝓔 n x        n times x
--   Residue m          the numbers below m
--   Parts m            a divisor p of m, above 1
use Rattle.std.specs.Prelude.{◌≡◌, ℕ, zero, suc, ◌*◌, ◌<◌}

pub record Exponents (E : Type 0) : Type 0 where
  pub add : E → E → E
  pub nil : E
  pub neg : E → E
  pub assoc : (x y z : E) → add (add x y) z ≡ add x (add y z)
  pub comm : (x y : E) → add x y ≡ add y x
  pub idl : (x : E) → add nil x ≡ x
  pub negr : (x : E) → add x (neg x) ≡ nil

module _ {E : Type 0} (𝓔 : Exponents E) where
  unfoldable pub total : (ℕ → E) → ℕ → E
  total g zero = 𝓔.nil
  total g (suc n) = 𝓔.add (g n) (total g n)

  abbrev pub times : ℕ → E → E
  times n x = total (λ k. x) n

abbrev pub Residue : ℕ → Type 0
Residue m = (x : ℕ) × (x < m)

pub record Parts (m : ℕ) : Type 0 where
  pub p : ℕ
  pub share : ℕ
  pub two : 1 < p
  pub split : m ≡ p * share
