-- All representations of a level as one: Ω holds the basis indices of all of them, pairs of a representation and a
-- column, and a matrix is one map of Ω that holds the matrices of all representations at once.
--
--   Separated d a b       some group element fixes a and b with exponents that differ
--   Family 𝓖 conj i n     representations of a group, with intertwiners of the generators from i to n - 1
--   Alike d φ Z Y         two maps that move past the representation alike
use Rattle.std.specs.Prelude.{◌≡◌, ℕ, ◌≤◌, ◌<◌}
use Rattle.definitions.specs.Presentation.{Mul}
use Rattle.group.specs.Models.{Hom}
use Rattle.monomial.specs.Exponents.{Exponents}
use Rattle.monomial.specs.Maps.{Map, maps, Inverse}

module _ {G : Type 0} {E : Type 0} (𝓔 : Exponents E) (Ω : Type 0) where
  pub record Separated (d : G → Map 𝓔 Ω) (a b : Ω) : Type 0 where
    pub by : G
    pub x : E
    pub y : E
    pub fixes : d by a ≡ (a, x)
    pub fixes' : d by b ≡ (b, y)
    pub differ : ¬ (x ≡ y)

  -- d represents the group; X j intertwines it with its conjugate by generator j; rep names the representation of a
  -- basis index, and target j where generator j takes a representation
  pub record Family (𝓖 : Mul G) (conj : ℕ → G → G) (i n : ℕ) : Type 0 where
    pub decide : Discrete Ω
    pub d : G → Map 𝓔 Ω
    pub hom : Hom 𝓖 (maps 𝓔 Ω) d
    pub X : ℕ → Map 𝓔 Ω
    pub past : (j : ℕ) → i ≤ j → j < n → (x : G) → (maps 𝓔 Ω).mul (X j) (d (conj j x)) ≡ (maps 𝓔 Ω).mul (d x) (X j)
    pub rep : Ω → ℕ
    pub target : ℕ → ℕ → ℕ
    pub inside : (x : G) (a : Ω) → rep (d x a).0 ≡ rep a
    pub maps_to : (j : ℕ) → i ≤ j → j < n → (a : Ω) → rep (X j a).0 ≡ target j (rep a)
    pub reached : (a b : Ω) → rep a ≡ rep b → (x : G) × ((d x a).0 ≡ b)
    pub separated : (a b : Ω) → ¬ (a ≡ b) → Separated d a b

  -- Z and Y move past the representation alike, and Y has an inverse: by Schur's lemma they differ by a scalar on each
  -- representation
  pub record Alike (d : G → Map 𝓔 Ω) (φ : G → G) (Z Y : Map 𝓔 Ω) : Type 0 where
    pub first : (x : G) → (maps 𝓔 Ω).mul Z (d (φ x)) ≡ (maps 𝓔 Ω).mul (d x) Z
    pub second : (x : G) → (maps 𝓔 Ω).mul Y (d (φ x)) ≡ (maps 𝓔 Ω).mul (d x) Y
    pub inverse : Inverse (maps 𝓔 Ω) Y
