-- The lines of a representation that fits hold matrices.
--
--   shifted-holds      lines that are a matrix with other exponents hold a matrix
--   fits-stored        so do those of a representation that fits
use mathlib.Core.Path.{◌≡◌, sym, ◌∙◌, ap, subst}
use mathlib.Core.List.{List}
use Prim.Native.Nat.{ℕ, suc, ◌+◌, ◌*◌, ◌≤◌, ◌<◌}
use native.Mathlib.Nat.{mod-lt}
use native.Mathlib.Omega.{arith}
use native.Mathlib.Decide.{dec_lt, ℕ_discrete}
use lib.ListN.{length}
use Rattle.definitions.specs.declared.Entry.{Entry}
use Rattle.definitions.specs.Monomial.{less, valid}
use Rattle.numbers.proofs.Lists.{all_below-elim}
use Rattle.level.specs.declared.Listed.{Listed}
use Rattle.level.specs.Stored.{entry_in, line_in, generator_in, Holds, Stored}
use Rattle.level.proofs.Matrices.{valid-holds}
use Rattle.seek.specs.declared.Scope.{Scope}
use Rattle.seek.specs.Seek.{Found}
use Rattle.compare.specs.declared.Stage.{Stage}
use Rattle.compare.specs.Shifted.{shift, Shifted}
use Rattle.compare.specs.Staged.{Staged}
use Rattle.compare.specs.Blocks.{block, TakesBlock, ref_at, BlockFits, RepFits}
use Rattle.compare.proofs.Staged.{found_inside}
use Rattle.compare.proofs.Blocks.{inside-matrix, row-single}

module _ {m : ℕ} {T : List ℕ} {at src d x e : ℕ} (pos : 0 < m) (H : Holds m T src d) (S : Shifted m T at src d (shift x 0 e)) where
  row_is : (c : ℕ) → c < d → (entry_in T (at + c)).row ≡ (entry_in T (src + c)).row
  row_is c l = ap (λ (y : Entry). y.row) (S.each c l).is ∙ omega arith

  pub shifted-holds : 8 * (at + d) ≤ length T → Holds m T at d
  shifted-holds fits = record {
    small = H.small;
    fits = fits;
    valid = λ c l. record {
      row = subst (λ r. r < d) (sym (row_is c l)) (H.valid c l).row;
      exp = subst (λ (y : Entry). y.exp < m) (sym (S.each c l).is) (mod-lt _ pos);
    };
    distinct = λ k l a b q. H.distinct k l a b (sym (row_is k a) ∙ q ∙ row_is l b);
  }

module _ {s : Scope} {T firsts : List ℕ} {g : Stage} (S : Staged s T firsts g) {r : ℕ} {D : Listed} (G : Found s.gens T (suc g.top) r D)
    (R : RepFits s T g D) where
  abbrev n : ℕ
  n = s.gens

  fits-room : (h : ℕ) → h < n → 8 * (line_in D h + D.deg) ≤ length T
  fits-room h l = inside-matrix (found_inside S.whole S.short G) h l

  -- ---- One block

  module _ (e : D.deg ≡ R.w) where
    first_block : BlockFits s T g D (0 * R.w) R.w
    first_block = R.blocks 0 (omega (arith, G.positive))

    abbrev F : Listed
    F = first_block.part

    width : F.deg ≡ D.deg
    width = first_block.width ∙ sym e

    abbrev Shown : ℕ → Type 0
    Shown h = (x q : ℕ) → Shifted s.m T (line_in D h + 0 * R.w) (line_in F h) F.deg (shift x 0 q) → Holds s.m T (line_in D h) D.deg

    shown : (h : ℕ) → h < n → Shown h
    shown h l x q M =
        let a : line_in D h + 0 * R.w ≡ line_in D h = omega arith in
        subst (Holds s.m T (line_in D h)) width
        (shifted-holds S.modulus.0 ((S.stored _ first_block.found).holds h l) (subst (λ at. Shifted s.m T at (line_in F h) F.deg (shift x 0 q)) a M)
        (subst (λ d. 8 * (line_in D h + d) ≤ length T) (sym width) (fits-room h l)))

    carried-holds : (h : ℕ) → h < n → {E : Listed} {x : ℕ} → TakesBlock s T D E (block (0 * R.w) (ref_at s T g D (0 * R.w)) F) h x → Holds s.m T (line_in D h) D.deg
    carried-holds h l {E} {x} Q =
        let z = row-single (entry_in T (line_in D h + 0 * R.w)).row F.deg D.deg width Q.lands in
        let q : ℕ = less s.m (entry_in T (line_in D h + 0 * R.w)).exp (entry_in T (line_in F h)).exp in
        shown h l x q (subst (λ o. Shifted s.m T (line_in D h + 0 * R.w) (line_in F h) F.deg (shift x o q)) (sym z) Q.shifted)

    one_holds : (h : ℕ) → h < n → Holds s.m T (line_in D h) D.deg
    one_holds h l = go (dec_lt h g.top) (dec_lt g.top h)
      where
        go : Dec (h < g.top) → Dec (g.top < h) → Holds s.m T (line_in D h) D.deg
        go (yes a) b =
            let z : 0 * R.w ≡ 0 = omega arith in
            let x : ℕ = ref_at s T g D (0 * R.w) in
            shown h l x 0 (subst (λ o. Shifted s.m T (line_in D h + 0 * R.w) (line_in F h) F.deg (shift x o 0)) z (first_block.lower.each h a))
        go (no a) (yes b) = carried-holds h l (first_block.upper.each h b l).carried
        go (no a) (no b) = let q : g.top ≡ h = omega arith in subst (λ h. Holds s.m T (line_in D h) D.deg) q (carried-holds g.top S.level.1 first_block.top)

  -- ---- Several

  several-holds : ¬ (D.deg ≡ R.w) → (h : ℕ) → h < n → Holds s.m T (line_in D h) D.deg
  several-holds ne h l =
      valid-holds s.m S.modulus.1 T (line_in D h) D.deg (fits-room h l)
      (all_below-elim n (λ h. valid s.m D.deg (generator_in T D h)) (R.proper.valid ne) h l)

  pub fits-stored : Stored s.m s.gens T D
  fits-stored = record { positive = G.positive; degree = G.said; holds = λ h l. go h l (ℕ_discrete D.deg R.w) }
    where
      go : (h : ℕ) → h < n → Dec (D.deg ≡ R.w) → Holds s.m T (line_in D h) D.deg
      go h l (yes e) = one_holds e h l
      go h l (no ne) = several-holds ne h l
