-- What the scalars of a step ask of the family that it stands on.
--
--   Ready        how many representations there are, a basis index of each, and m a multiple of p times the order of the group
use Rattle.std.specs.Prelude.{◌≡◌, ℕ, ◌*◌, ◌<◌}
use Rattle.definitions.specs.Presentation.{Mul}
use Rattle.numbers.proofs.Prime.{Units}
use Rattle.monomial.specs.Families.{Family}
use Rattle.monomial.proofs.Residues.{residues}
use Rattle.clifford.specs.Extension.{Extension}

pub record Ready {G G⁺ : Type 0} {𝓖 : Mul G} {𝓖⁺ : Mul G⁺} {conj : ℕ → G → G} {conj⁺ : ℕ → G⁺ → G⁺} {i n : ℕ} (S : Extension 𝓖 𝓖⁺ conj conj⁺ i n)
    (m : ℕ) (pos : 0 < m) {Ω : Type 0} (F : Family (residues m pos) Ω 𝓖 conj i n) : Type 0 where
  pub count : ℕ
  pub rep_below : (a : Ω) → F.rep a < count
  pub first : ℕ → Ω
  pub first_rep : (r : ℕ) → r < count → F.rep (first r) ≡ r
  pub share : ℕ
  pub split : m ≡ S.p * share
  pub spare : ℕ
  pub split' : share ≡ S.order * spare
  pub units : Units S.p
