-- Representations of a level of a table to which 21 does not apply.
--
--   level-positive    degrees are positive, on level 0 too
--   at_count, positive-at, whole-at      what is known of them, by the number of generators of the presentation
--   one-is-block      one block, told by the first reference
--   apart-told        what the test of two of them says
--   placed-positive, placed-whole      what is known of one, over its lines
--   Passing, passing-told      the representations before one are apart from it, and one more test
use mathlib.Core.Path.{◌≡◌, sym, ◌∙◌, ap, ap₂, subst}
use mathlib.Core.Bool.{Bool, true}
use mathlib.Core.List.{List}
use Prim.Native.Nat.{ℕ, zero, suc, ◌+◌, ◌≤◌, ◌<◌}
use native.Mathlib.Omega.{arith}
use lib.Dec.{eqb}
use lib.ListN.{length}
use Rattle.definitions.specs.Lists.{all}
use Rattle.definitions.specs.Presentation.{Presentation}
use Rattle.definitions.specs.Monomial.{Rep, rep_of}
use Rattle.definitions.specs.Table.{level_at}
use Rattle.definitions.specs.Judgement.{cuts, whole_block}
use Rattle.numbers.proofs.Passed.{Passed}
use Rattle.heads.proofs.Complete.{complete-degree}
use Rattle.level.specs.declared.Listed.{Listed}
use Rattle.seek.specs.declared.Scope.{Scope}
use Rattle.seek.specs.Seek.{Whole, Found}
use Rattle.seek.specs.Formed.{Formed}
use Rattle.seek.proofs.Columns.{first_ref}
use Rattle.seek.proofs.Seek.{zero-degree, found-above}
use Rattle.seek.proofs.Stored.{blocks-whole}
use Rattle.separation.specs.Decision.{reference, apart}
use Rattle.separation.specs.Apart.{apart_at}
use Rattle.separation.proofs.Apart.{apart-columns}
use Rattle.seek.specs.Among.{rep_in}
use Rattle.check_pairs.specs.Pairs.{one_block, PlacedAt, Later}

pub level-positive : (s : Scope) (T : List ℕ) → Whole s T → (i : ℕ) → i ≤ s.gens → (r : ℕ) → r < length (level_at s.gens T i)
    → 0 < (rep_of (level_at s.gens T i) r).deg
level-positive s T W zero l r h = let e = (zero-degree s T W 0 r (omega arith) h).0 in subst (λ x. 0 < x) e (omega arith)
level-positive s T W (suc k) l r h = complete-degree s.gens W.some T W.all k r l h

-- ---- Two of a level

module _ {P : Presentation} {s : Scope} {T : List ℕ} (F : Formed P s T) (i : ℕ) (l : i < s.gens) where
  pub at_count : {k r : ℕ} {D : Listed} → Found s.gens T k r D → Found P.n T k r D
  at_count {k} {r} {D} G = subst (λ n. Found n T k r D) F.gens_are G

  pub positive-at : (k : ℕ) → k ≤ s.gens → (r : ℕ) → r < length (level_at P.n T k) → 0 < (rep_of (level_at P.n T k) r).deg
  positive-at k h =
      subst (λ n. (r : ℕ) → r < length (level_at n T k) → 0 < (rep_of (level_at n T k) r).deg) F.gens_are (level-positive s T F.whole k h)

  pub whole-at : (r : ℕ) → r < length (level_at P.n T (suc i))
      → all (whole_block (level_at P.n T i) (rep_of (level_at P.n T (suc i)) r)) (cuts (level_at P.n T i) (rep_of (level_at P.n T (suc i)) r)) ≡ true
  whole-at = blocks-whole P s.m T F.formed i (subst (λ n. i < n) F.gens_are l)

  pub one-is-block : {r : ℕ} {E : Listed} → Found s.gens T (suc i) r E
      → one_block s.gens T i E ≡ eqb (rep_of (level_at P.n T i) (reference P T i r 0)).deg (rep_of (level_at P.n T (suc i)) r).deg
  one-is-block {r} {E} G =
      let H = at_count G in
      ap (λ n. one_block n T i E) F.gens_are
      ∙ ap₂ (λ x y. eqb (rep_of (level_at P.n T i) x).deg y) (sym (first_ref T E) ∙ ap (λ (R : Rep). R.ref 0 0) (sym H.rep)) H.deg

  pub apart-told : {r r' : ℕ} {D E : Listed} {one b : Bool} → Found s.gens T (suc i) r D → Found s.gens T (suc i) r' E → ¬ (r ≡ r')
      → one ≡ one_block s.gens T i E → b ≡ apart_at i one (rep_in T D) (rep_in T E) → b ≡ apart P T i r r'
  apart-told {r} {r'} {D} {E} {one} {b} G H ne o h =
      let g = at_count G in
      let e = at_count H in
      let single : Bool = eqb (rep_of (level_at P.n T i) (reference P T i r' 0)).deg (rep_of (level_at P.n T (suc i)) r').deg in
      h ∙ ap (λ o. apart_at i o (rep_in T D) (rep_in T E)) (o ∙ one-is-block H) ∙ ap₂ (apart_at i single) (sym g.rep) (sym e.rep)
      ∙ sym (apart-columns P T i (positive-at i (omega arith)) (positive-at (suc i) l) whole-at r r' g.listed e.listed ne)

-- ---- One of a level, in its lines

module _ {s : Scope} {T : List ℕ} {i r : ℕ} {D : Listed} (L : PlacedAt s T i r D) where
  pub placed-positive : (q : ℕ) → q < length (level_at s.gens T i) → 0 < (rep_of (level_at s.gens T i) q).deg
  placed-positive = level-positive s T L.formed.whole i (omega (arith, L.level))

  pub placed-whole : all (whole_block (level_at s.gens T i) (rep_in T D)) (cuts (level_at s.gens T i) (rep_in T D)) ≡ true
  placed-whole =
      let G = at_count L.formed i L.level L.found in
      subst (λ n. all (whole_block (level_at n T i) (rep_in T D)) (cuts (level_at n T i) (rep_in T D)) ≡ true) (sym L.formed.gens_are)
      (subst (λ (R : Rep). all (whole_block (level_at L.presented.n T i) R) (cuts (level_at L.presented.n T i) R) ≡ true) G.rep
      (whole-at L.formed i L.level r G.listed))

-- ---- All before one

module _ (s : Scope) (T : List ℕ) (i last : ℕ) where
  abbrev pub Passing : ℕ → Type 0
  Passing r = Passed (λ P. Formed P s T) (λ P r. apart P T i r last) r

  pub passing-told : {one : Bool} {E : Listed} → Later s T i last one E → {r : ℕ} {D : Listed} {b : Bool} → Found s.gens T (i + 1) r D → r < last
      → b ≡ apart_at i one (rep_in T D) (rep_in T E) → (P : Presentation) → Formed P s T → b ≡ apart P T i r last
  passing-told L {r} G l h P F = apart-told F i L.placed.level (found-above G) L.placed.found (λ q. omega (arith, q)) L.one_is h
