-- The basis indices of a level, each a representation and a column of it.
--
--   Basis L                              the basis indices
--   basis-path, basis-discrete           they are known by their numbers
--   basis-frame, basis-complete          a frame in which every column is one
use mathlib.Core.Path.{◌≡◌, refl, ap}
use mathlib.Core.Logic.{by_cases}
use mathlib.Core.HLevel.{Σ_prop_path, ×_prop}
use Prim.Native.Nat.{ℕ, ◌<◌}
use native.Mathlib.Bridge.{le_prop}
use native.Mathlib.Decide.{ℕ_discrete}
use lib.ListN.{length}
use Rattle.definitions.specs.Monomial.{Level, rep_of}
use Rattle.monomial.specs.Frames.{Layout, Complete}
use Rattle.clifford.specs.Stands.{frame}

module _ (L : Level) where
  abbrev pub Basis : Type 0
  Basis = (x : ℕ × ℕ) × ((x.0 < length L) × (x.1 < (rep_of L x.0).deg))

  pub basis-path : (x y : Basis) → x.0.0 ≡ y.0.0 → x.0.1 ≡ y.0.1 → x ≡ y
  basis-path x y p q = Σ_prop_path (λ z. ×_prop le_prop le_prop) (λ j. (p j, q j))

  pub basis-discrete : Discrete Basis
  basis-discrete x y = by_cases (ℕ_discrete x.0.0 y.0.0)
      (λ a. by_cases (ℕ_discrete x.0.1 y.0.1) (λ b. yes (basis-path x y a b)) (λ b. no (λ q. b (ap (λ z. z.0.1) q))))
      (λ a. no (λ q. a (ap (λ z. z.0.0) q)))

  abbrev pub basis-frame : Layout Basis
  basis-frame = frame L (λ (x : Basis). x.0.0) (λ (x : Basis). x.0.1) (λ (x : Basis). x.1.1)

  abbrev pub basis-complete : Complete basis-frame (length L)
  basis-complete = record {
    rep_below = λ x. x.1.0;
    find = λ r c h l. ((r, c), (h, l));
    find_rep = λ r c h l. refl;
    find_column = λ r c h l. refl;
    known = basis-path;
  }
