-- Monomial matrices as maps: a basis index goes to a basis index, with an exponent. Composition is the product.
--
--   Map 𝓔 Ω            the maps of the basis indices Ω
--   maps 𝓔 Ω           their product, which applies the right factor first, and the identity
--   diagonal 𝓔 s       basis index a stays, with exponent s a
--   Inverse 𝓜 z        an element that undoes z on both sides
use Rattle.std.specs.Prelude.{◌≡◌}
use Rattle.definitions.specs.Presentation.{Mul}
use Rattle.monomial.specs.Exponents.{Exponents}

module _ {E : Type 0} (𝓔 : Exponents E) (Ω : Type 0) where
  abbrev pub Map : Type 0
  Map = Ω → Ω × E

  unfoldable pub compose : Map → Map → Map
  compose M N a = ((M (N a).0).0, 𝓔.add (M (N a).0).1 (N a).1)

  unfoldable pub maps : Mul Map
  maps = record { mul = compose; one = λ a. (a, 𝓔.nil) }

  unfoldable pub diagonal : (Ω → E) → Map
  diagonal s a = (a, s a)

pub record Inverse {M : Type 0} (𝓜 : Mul M) (z : M) : Type 0 where
  pub to : M
  pub right : 𝓜.mul z to ≡ 𝓜.one
  pub left : 𝓜.mul to z ≡ 𝓜.one
