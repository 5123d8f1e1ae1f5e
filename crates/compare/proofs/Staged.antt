-- The representations of the two levels.
--
--   found_inside               the lines of a representation that is found are there
--   lined-found, lined-place   a representation of a level whose first lines are listed
--   low-place, high-place      where its first line stands
--   low-at, high-at            it is found there
use mathlib.Core.Path.{◌≡◌, sym, subst}
use mathlib.Core.List.{List}
use Prim.Native.Nat.{ℕ, suc, ◌+◌, ◌*◌, ◌≤◌, ◌<◌}
use native.Mathlib.Nat.{mul-le-mul_right}
use native.Mathlib.Omega.{arith}
use lib.ListN.{length, get_or}
use Rattle.level.specs.declared.Listed.{Listed}
use Rattle.level.specs.Stored.{listed_in}
use Rattle.seek.specs.declared.Scope.{Scope}
use Rattle.seek.specs.Seek.{Whole, Found}
use Rattle.seek.proofs.Seek.{found_first, found-there}
use Rattle.compare.specs.declared.Stage.{Stage}
use Rattle.compare.specs.Staged.{max_lines, Lined, Staged}
use Rattle.compare.specs.Blocks.{Present}

module _ {s : Scope} {T : List ℕ} (W : Whole s T) where
  pub found_inside : s.lines ≤ max_lines → {i r : ℕ} {D : Listed} → Found s.gens T i r D → Present s T D
  found_inside short {i} {r} {D} F =
      let m : 1 * D.deg ≤ s.gens * D.deg = mul-le-mul_right D.deg W.some in
      record { room = F.inside; positive = F.positive; narrow = omega (arith, F.inside, W.lines_are, m) }

  module _ {i : ℕ} {firsts : List ℕ} {at many : ℕ} (p : 0 < i) (l : i ≤ s.gens) (L : Lined s.gens T i firsts at many) (r : ℕ) (h : r < many) where
    pub lined-found : Found s.gens T i r (listed_in T (get_or firsts (at + r) 0))
    lined-found =
        subst (λ x. Found s.gens T i r (listed_in T x)) (sym (L.line r h)) (found_first s T W i r p l (omega (arith, L.counts)))

    pub lined-place : (at + r < length firsts) × (8 * get_or firsts (at + r) 0 + 8 ≤ length T)
    lined-place = (omega (arith, L.room), found-there s T W lined-found)

module _ {s : Scope} {T firsts : List ℕ} {g : Stage} (S : Staged s T firsts g) (r : ℕ) where
  module _ (h : r < g.below) where
    low-found : Found s.gens T g.top r (listed_in T (get_or firsts (g.low + r) 0))
    low-found = lined-found S.whole S.level.0 (omega (arith, S.level.1)) S.low r h

    pub low-at : {F : Listed} → F ≡ listed_in T (get_or firsts (g.low + r) 0) → {x : ℕ} → r ≡ x → Found s.gens T g.top x F
    low-at {F} e {x} q = subst (λ x. Found s.gens T g.top x F) q (subst (Found s.gens T g.top r) (sym e) low-found)

    pub low-place : (g.low + r < length firsts) × (8 * get_or firsts (g.low + r) 0 + 8 ≤ length T)
    low-place = lined-place S.whole S.level.0 (omega (arith, S.level.1)) S.low r h

  module _ (h : r < g.above) where
    high-found : Found s.gens T (suc g.top) r (listed_in T (get_or firsts (g.high + r) 0))
    high-found = lined-found S.whole (omega arith) S.level.1 S.high r h

    pub high-at : {D : Listed} → D ≡ listed_in T (get_or firsts (g.high + r) 0) → {x : ℕ} → r ≡ x → Found s.gens T (suc g.top) x D
    high-at {D} e {x} q = subst (λ x. Found s.gens T (suc g.top) x D) q (subst (Found s.gens T (suc g.top) r) (sym e) high-found)

    pub high-place : (g.high + r < length firsts) × (8 * get_or firsts (g.high + r) 0 + 8 ≤ length T)
    high-place = lined-place S.whole (omega arith) S.level.1 S.high r h
