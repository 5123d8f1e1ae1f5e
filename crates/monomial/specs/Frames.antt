-- Basis indices with numbers: how the lists of columns of the definitions show maps of basis indices.
--
--   Layout Ω              the number of a basis index's representation, its column there, and degrees
--   Complete Φ N         every column of every representation below N is a basis index, and just one
--   Shows m Φ r s M A    the list M of columns shows what the map A does on representation r, which it maps to s
use Rattle.std.specs.Prelude.{◌≡◌, ℕ, ◌<◌, length}
use Rattle.definitions.specs.Monomial.{Matrix, entry, col}
use Rattle.monomial.specs.Exponents.{Residue}

pub record Layout (Ω : Type 0) : Type 0 where
  pub rep : Ω → ℕ
  pub column : Ω → ℕ
  pub degree : ℕ → ℕ
  pub column_below : (a : Ω) → column a < degree (rep a)

pub record Complete {Ω : Type 0} (Φ : Layout Ω) (N : ℕ) : Type 0 where
  pub rep_below : (a : Ω) → Φ.rep a < N
  pub find : (r c : ℕ) → r < N → c < Φ.degree r → Ω
  pub find_rep : (r c : ℕ) (h : r < N) (l : c < Φ.degree r) → Φ.rep (find r c h l) ≡ r
  pub find_column : (r c : ℕ) (h : r < N) (l : c < Φ.degree r) → Φ.column (find r c h l) ≡ c
  pub known : (a b : Ω) → Φ.rep a ≡ Φ.rep b → Φ.column a ≡ Φ.column b → a ≡ b

pub record Shows {Ω : Type 0} (m : ℕ) (Φ : Layout Ω) (r s : ℕ) (M : Matrix) (A : Ω → Ω × Residue m) : Type 0 where
  pub size : length M ≡ Φ.degree r
  pub maps_to : (a : Ω) → Φ.rep a ≡ r → Φ.rep (A a).0 ≡ s
  pub shown : (a : Ω) → Φ.rep a ≡ r → col M (Φ.column a) ≡ entry (Φ.column (A a).0) (A a).1.0
