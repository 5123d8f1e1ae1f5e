-- The rows of each matrix of a level of the steps are different.
--
--   image-inverse, intertwiner-inverse-at      generators of the level and intertwiners have inverses
--   rows-distinct                              so their matrices have different rows
use mathlib.Core.Path.{◌≡◌, sym, ◌∙◌, ap}
use mathlib.Core.Logic.{by_cases}
use Prim.Native.Nat.{ℕ, suc, ◌≤◌, ◌<◌}
use native.Mathlib.Omega.{arith}
use native.Mathlib.Decide.{dec_lt}
use lib.ListN.{length}
use Rattle.definitions.specs.Presentation.{order}
use Rattle.definitions.specs.Monomial.{Level, col, rep_of}
use Rattle.definitions.specs.Steps.{levels}
use Rattle.group.proofs.Level.{conj_nf, gen_nf}
use Rattle.group.proofs.Order.{order-positive, inverse, inverse-right, inverse_left}
use Rattle.group.proofs.Conjugation.{conj_period}
use Rattle.monomial.specs.Maps.{maps, Inverse}
use Rattle.monomial.specs.Frames.{Layout}
use Rattle.monomial.proofs.Residues.{residues}
use Rattle.monomial.proofs.Frames.{shows-distinct}
use Rattle.monomial.proofs.Schur.{intertwiner-inverse}
use Rattle.clifford.specs.Stands.{frame}
use Rattle.clifford.specs.Accepted.{Accepted}
use Rattle.clifford.proofs.Standing.{Standing, standing, setting}
use Rattle.levels.specs.Built.{degree_in, level_of}

module _ (A : Accepted) (k : ℕ) (l : k < A.C.P.n) where
  abbrev n : ℕ
  n = A.C.P.n

  abbrev m : ℕ
  m = order A.C.P n

  abbrev pos : 0 < m
  pos = order-positive A.C n

  abbrev L : Level
  L = levels A.C.P m (suc k)

  abbrev here : Standing (setting A) (suc k) L
  here = standing (setting A) (suc k) l

  abbrev Φ : Layout here.Ω
  Φ = frame L here.F.rep here.stands.column here.stands.column_below

  image-inverse : (g : ℕ) → Inverse (maps (residues m pos) here.Ω) (here.F.d (gen_nf A.C (suc k) g))
  image-inverse g =
      let F = here.F in
      let T = (setting A).T in
      let x = gen_nf A.C (suc k) g in
      record {
        to = F.d (inverse A.C (suc k) x);
        right = sym (F.hom.on_mul _ _) ∙ ap F.d (inverse-right T (suc k) l x) ∙ F.hom.on_one;
        left = sym (F.hom.on_mul _ _) ∙ ap F.d (inverse_left T (suc k) l x) ∙ F.hom.on_one;
      }

  intertwiner-inverse-at : (j : ℕ) → suc k ≤ j → j < n → Inverse (maps (residues m pos) here.Ω) (here.F.X j)
  intertwiner-inverse-at j a b =
      intertwiner-inverse here.F (here.F.X j) (conj_nf A.C (suc k) j) (here.F.past j a b) (order A.C.P (suc j)) (order-positive A.C (suc j)) (conj_period (setting A).T (suc k) j a b)

  pub rows-distinct : (r g : ℕ) → r < length (level_of A (suc k)) → g < A.C.P.n → (c c' : ℕ) → c < degree_in A k r → c' < degree_in A k r
      → (col ((rep_of (level_of A (suc k)) r).matrix g) c).row ≡ (col ((rep_of (level_of A (suc k)) r).matrix g) c').row
      → c ≡ c'
  rows-distinct r g h a = by_cases (dec_lt g (suc k))
      (λ b. shows-distinct m pos Φ here.stands.complete h (here.stands.represents g b r h) (image-inverse g))
      (λ b. shows-distinct m pos Φ here.stands.complete h (here.stands.intertwines g (omega arith) a r h) (intertwiner-inverse-at g (omega arith) a))
