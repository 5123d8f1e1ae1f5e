-- A level that fits stands on its family.
--
--   high-stands      it does: its columns show the maps of the step
use mathlib.Core.Path.{◌≡◌, refl, sym, ◌∙◌, ap, ap₂, subst}
use Prim.Native.Nat.{ℕ, zero, suc, ◌+◌, ◌*◌, ◌<◌}
use native.Mathlib.Omega.{arith}
use native.Mathlib.Decide.{dec_lt}
use lib.ListN.{length}
use Rattle.definitions.specs.declared.Entry.{Entry}
use Rattle.definitions.specs.Lists.{sum, iter}
use Rattle.definitions.specs.Presentation.{order}
use Rattle.definitions.specs.Monomial.{entry, col, rep_of}
use Rattle.numbers.proofs.Lists.{iter-zero, iter-suc}
use Rattle.numbers.proofs.Sums.{sum-zero}
use Rattle.group.specs.Context.{Context, Nf}
use Rattle.group.proofs.Level.{gen_nf, gen-low, gen-top}
use Rattle.group.proofs.Order.{order-positive}
use Rattle.monomial.specs.Exponents.{times, Residue}
use Rattle.monomial.specs.Maps.{Map}
use Rattle.monomial.specs.Frames.{Shows}
use Rattle.monomial.proofs.Residues.{residues}
use Rattle.monomial.proofs.Maps.{pair, at-column}
use Rattle.clifford.specs.Stands.{Stands}
use Rattle.clifford.proofs.Numbering.{S}
use Rattle.clifford.proofs.Levels.{exponent_nf, exponent_low, exponent_top}
use Rattle.clifford.proofs.Top.{raised}
use Rattle.clifford.proofs.Step.{numbered, Y-numbered-at}
use Rattle.clifford.proofs.Extensions.{E, gen-below, gen-last}
use Rattle.clifford.proofs.Basis.{basis-frame, basis-complete}
use Rattle.fitting.proofs.Parts.{Fitted, Up, fit, width, to, turn}
use Rattle.fitting.proofs.Spots.{scalar, spot, column-low, column-high}
use Rattle.fitting.proofs.Scales.{σ, 𝓢, ε, ρ, number, scalar_is}
use Rattle.fitting.proofs.Places.{Index, up_of, block, block_below, split, base, base-rep, base-column, place-rep, place-column, toward-width}
use Rattle.fitting.proofs.Raise.{high-d, high-X, high-X-is, mapped, mapped-to, target, family}

module _ (W : Fitted) where
  open W use {R, High, fits}
  open W.R use {T, m, pos, i, Ω, F}
  open W.R.stands use {column}
  open residues W.R.m W.R.pos use {add}

  abbrev C : Context
  C = T.context

  -- a basis index with an exponent, as an entry of its column
  abbrev entered : Index W × Residue m → Entry
  entered z = entry z.0.0.1 z.1.0

  -- the column of a basis index, from the start of its block
  at_base : (x : Index W) → x.0.1 ≡ block W x * width W (up_of W x) + column (base W x)
  at_base x = sym (split W x) ∙ ap (λ c. block W x * width W (up_of W x) + c) (sym (base-column W x))

  -- ---- Generators of the level

  abbrev lifted : Nf C (suc i) → Index W → Ω × Residue m
  lifted w x = raised (S R) F (numbered (S R) F (𝓢 W) (ρ W) (number W (up_of W x))) w (base W x)

  d-rep : (w : Nf C (suc i)) (x : Index W) → (high-d W w x).0.0.0 ≡ x.0.0
  unfolding high-d
  d-rep w x = place-rep W _ _ _ _ _

  d-spot : (w : Nf C (suc i)) (x : Index W) → entered (high-d W w x) ≡ spot W (up_of W x) (iter (turn W (up_of W x)) (exponent_nf C i w) (block W x)) (lifted w x)
  unfolding high-d spot
  d-spot w x = ap (λ c. entry c (lifted w x).1.0) (place-column W _ _ _ _ _)

  abbrev Shown : ℕ → Index W → Type 0
  Shown g x = col ((rep_of High x.0.0).matrix g) x.0.1 ≡ entered (high-d W (gen_nf C (suc i) g) x)

  shown-low : (g : ℕ) → g < i → (x : Index W) → Shown g x
  shown-low g l x =
      let u : Up W = up_of W x in
      let k : ℕ = block W x in
      let w : Nf C (suc i) = gen_nf C (suc i) g in
      let e : exponent_nf C i w ≡ 0 = ap (exponent_nf C i) (gen-low C i g l) ∙ exponent_low C i (gen_nf C i g) in
      let z : lifted w x ≡ F.d (gen_nf C i g) (base W x)
      = at-column (E R) (gen-below R (numbered (S R) F (𝓢 W) (ρ W) (number W u)) g l) (base W x) in
      ap (col ((rep_of High u.0).matrix g)) (at_base x) ∙ column-low W u k (block_below W x) (base W x) (base-rep W x) g l
      ∙ sym (d-spot w x ∙ ap₂ (spot W u) (ap (λ e. iter (turn W u) e k) e ∙ iter-zero (turn W u) k) z)

  shown-top : (x : Index W) → Shown i x
  shown-top x =
      let u : Up W = up_of W x in
      let k : ℕ = block W x in
      let w : Nf C (suc i) = gen_nf C (suc i) i in
      let y : Ω × Residue m = F.X i (base W x) in
      let root : Residue m = times (E R) (number W u) (ε W) in
      let e : exponent_nf C i w ≡ 1 = ap (exponent_nf C i) (gen-top C i) ∙ exponent_top C i in
      let z : lifted w x ≡ (y.0, add y.1 (add (σ W (F.rep (base W x))) root))
      = at-column (E R) (gen-last R (numbered (S R) F (𝓢 W) (ρ W) (number W u))) (base W x)
      ∙ Y-numbered-at (S R) F (𝓢 W) (ρ W) (number W u) (base W x) in
      let s : add (σ W (F.rep (base W x))) root ≡ scalar W u i k = ap (λ f. add (σ W f) root) (base-rep W x) ∙ sym (scalar_is W u k (block_below W x)) in
      ap (col ((rep_of High u.0).matrix i)) (at_base x)
      ∙ column-high W u k (block_below W x) (base W x) (base-rep W x) i (omega arith) R.in_range
      ∙ sym (d-spot w x ∙ ap₂ (spot W u) (ap (λ e. iter (turn W u) e k) e ∙ iter-suc (turn W u) 0 k ∙ iter-zero (turn W u) (turn W u k))
      (z ∙ pair (E R) refl (ap (add y.1) s)))

  represents : (g : ℕ) → g < suc i → (r : ℕ) → r < length High → Shows m (basis-frame High) r r ((rep_of High r).matrix g) ((family W).d (gen_nf C (suc i) g))
  represents g l r h = record {
    size = W.size r g h (omega (arith, R.in_range));
    maps_to = λ x e. d-rep (gen_nf C (suc i) g) x ∙ e;
    shown = λ x e. ap (λ r. col ((rep_of High r).matrix g) x.0.1) (sym e) ∙ go x (dec_lt g i);
  }
    where
      go : (x : Index W) → Dec (g < i) → Shown g x
      go x (yes a) = shown-low g a x
      go x (no a) = let e : i ≡ g = omega arith in subst (λ g. Shown g x) e (shown-top x)

  -- ---- Generators above

  module _ (j : ℕ) (ij : i < j) (jn : j < T.n) where
    mapped-shown : (x : Index W) → col ((rep_of High x.0.0).matrix j) x.0.1 ≡ entered (mapped W j ij jn x)
    unfolding mapped spot
    mapped-shown x =
        let u : Up W = up_of W x in
        let k : ℕ = block W x in
        let y : Ω × Residue m = F.X j (base W x) in
        let e : ℕ = (add y.1 (scalar W u j k)).0 in
        ap (col ((rep_of High u.0).matrix j)) (at_base x) ∙ column-high W u k (block_below W x) (base W x) (base-rep W x) j (omega arith) jn
        ∙ ap (λ c. entry c e) (sym (place-column W _ _ _ _ _ ∙ ap (λ w. to W u j k * w + column y.0) (toward-width W j ij jn u)))

    intertwines : (r : ℕ) → r < length High → Shows m (basis-frame High) r (target W j r) ((rep_of High r).matrix j) (high-X W j)
    intertwines r h = record {
      size = W.size r j h jn;
      maps_to = λ x e. mapped-to W j ij jn x ∙ ap (target W j) e;
      shown = λ x e. ap (λ r. col ((rep_of High r).matrix j) x.0.1) (sym e) ∙ mapped-shown x
          ∙ ap (λ (f : Map (E R) (Index W)). entered (f x)) (sym (high-X-is W j ij jn));
    }

  nonempty : 0 < length High
  nonempty = go (length High) refl
    where
      squared : ℕ → ℕ
      squared r = (rep_of High r).deg * (rep_of High r).deg

      go : (n : ℕ) → length High ≡ n → 0 < length High
      go zero e =
          let z : order C.P (suc i) ≡ 0 = sym fits.squares ∙ ap (λ n. sum n squared) e ∙ sum-zero squared in
          absurd (omega (arith, order-positive C (suc i)))
      go (suc n) e = omega arith

  pub high-stands : Stands W.R.T.context W.R.T.n W.R.m W.R.pos (suc W.R.i) W.High (family W)
  high-stands = record {
    column = λ x. x.0.1;
    column_below = λ x. x.1.1;
    complete = basis-complete High;
    represents = represents;
    intertwines = intertwines;
    refers = λ j ij jn r h c l. (fit W (r, h)).leads j c ij jn l;
    nonempty = nonempty;
    degree_pos = fits.degree_pos;
    degree_target = λ j ij jn r h. (fit W (r, h)).same_degree j ij jn;
    squares = fits.squares;
  }
