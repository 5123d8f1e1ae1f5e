-- Basis indices of one level above basis indices of the level below, distinguished by a number: maps above a numbered
-- family of maps.
--
--   At z b κ s       the entry z lies above b with number κ, and has exponent s
--   Over A A'        A' moves what lies above as A does, and fixes the number
use Rattle.std.specs.Prelude.{◌≡◌, ℕ}
use Rattle.monomial.specs.Exponents.{Exponents}
use Rattle.monomial.specs.Maps.{Map}

module _ {E : Type 0} (𝓔 : Exponents E) {Ω Ω' : Type 0} (base : Ω' → Ω) (number : Ω' → ℕ) where
  pub record At (z : Ω' × E) (b : Ω) (κ : ℕ) (s : E) : Type 0 where
    pub is_base : base z.0 ≡ b
    pub is_number : number z.0 ≡ κ
    pub is_exponent : z.1 ≡ s

  abbrev pub Over : (ℕ → Map 𝓔 Ω) → Map 𝓔 Ω' → Type 0
  Over A A' = (x : Ω') → At (A' x) (A (number x) (base x)).0 (number x) (A (number x) (base x)).1
