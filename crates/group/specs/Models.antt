-- Monoids, maps between them, and monoids in which the relations of a presentation hold.
--
--   Laws 𝓜            the product is associative and the unit is one
--   Hom 𝓐 𝓑 φ         φ takes product and unit to product and unit
--   Satisfies P 𝓜 h n  the elements h satisfy the relations of P up to level n
--   Model P n M        a monoid with such elements
--   Abelian 𝓜         any two elements commute
--   WordsEmpty P n     the commutator words of the first n generators are empty
use Rattle.std.specs.Prelude.{◌≡◌, ℕ, suc, ◌<◌}
use Rattle.definitions.specs.Presentation.{trivial, Presentation, Mul, power, value}

pub record Laws {M : Type 0} (𝓜 : Mul M) : Type 0 where
  pub assoc : (a b c : M) → 𝓜.mul (𝓜.mul a b) c ≡ 𝓜.mul a (𝓜.mul b c)
  pub idl : (a : M) → 𝓜.mul 𝓜.one a ≡ a
  pub idr : (a : M) → 𝓜.mul a 𝓜.one ≡ a

pub record Hom {A B : Type 0} (𝓐 : Mul A) (𝓑 : Mul B) (φ : A → B) : Type 0 where
  pub on_one : φ 𝓐.one ≡ 𝓑.one
  pub on_mul : (x y : A) → φ (𝓐.mul x y) ≡ 𝓑.mul (φ x) (φ y)

-- the commutator relation is put without inverses: g_k g_j = g_j g_k w
pub record Satisfies (P : Presentation) {M : Type 0} (𝓜 : Mul M) (h : ℕ → M) (n : ℕ) : Type 0 where
  pub powers : (j : ℕ) → j < n → power 𝓜 (h j) (P.p j) ≡ value 𝓜 h j (P.u j)
  pub commutators : (k j : ℕ) → k < j → j < n → 𝓜.mul (h k) (h j) ≡ 𝓜.mul (h j) (𝓜.mul (h k) (value 𝓜 h (suc k) (P.w k j)))

pub record Model (P : Presentation) (n : ℕ) (M : Type 0) : Type 0 where
  pub product : Mul M
  pub laws : Laws product
  pub h : ℕ → M
  pub satisfies : Satisfies P product h n

abbrev pub Abelian : {M : Type 0} → Mul M → Type 0
Abelian {M} 𝓜 = (x y : M) → 𝓜.mul x y ≡ 𝓜.mul y x

abbrev pub WordsEmpty : (P : Presentation) (n : ℕ) → Type 0
WordsEmpty P n = (k j : ℕ) → k < j → j < n → P.w k j ≡ trivial (suc k)
