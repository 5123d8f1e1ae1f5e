-- Representations of an extension that are cut into blocks, each of which acts as a representation of a family of the
-- group below. Any table whose relations hold and whose restrictions are the listed blocks gives such.
--
--   Blocked S F      basis indices above those of F, in blocks, and a representation of the extension on them
use Rattle.std.specs.Prelude.{◌≡◌, ℕ, ◌<◌}
use Rattle.definitions.specs.Presentation.{Mul}
use Rattle.group.specs.Models.{Hom}
use Rattle.numbers.proofs.Prime.{Units}
use Rattle.monomial.specs.Exponents.{Exponents}
use Rattle.monomial.specs.Maps.{Map, maps}
use Rattle.monomial.specs.Families.{Family}
use Rattle.clifford.specs.Extension.{Extension}

pub record Blocked {G G⁺ : Type 0} {𝓖 : Mul G} {𝓖⁺ : Mul G⁺} {conj : ℕ → G → G} {conj⁺ : ℕ → G⁺ → G⁺} {i n k : ℕ} (S : Extension 𝓖 𝓖⁺ conj conj⁺ i n)
    {E : Type 0} (𝓔 : Exponents E) {Ω : Type 0} (F : Family 𝓔 Ω 𝓖 conj i k) : Type 1 where
  pub exponent_below : (x : G⁺) → S.exponent x < S.p
  pub units : Units S.p
  pub Ω⁺ : Type 0
  pub d⁺ : G⁺ → Map 𝓔 Ω⁺
  pub hom : Hom 𝓖⁺ (maps 𝓔 Ω⁺) d⁺
  pub base : Ω⁺ → Ω
  pub Block : Type 0
  pub block : Ω⁺ → Block
  pub known : (x y : Ω⁺) → base x ≡ base y → block x ≡ block y → x ≡ y
  pub one_rep : (x y : Ω⁺) → block x ≡ block y → F.rep (base x) ≡ F.rep (base y)
  pub over_base : (h : G) (x : Ω⁺) → base (d⁺ (S.low h) x).0 ≡ (F.d h (base x)).0
  pub over_block : (h : G) (x : Ω⁺) → block (d⁺ (S.low h) x).0 ≡ block x
  pub over_exponent : (h : G) (x : Ω⁺) → (d⁺ (S.low h) x).1 ≡ (F.d h (base x)).1
