-- The basis indices of a level that fits, over those of the level below.
--
--   up_of, block, inner            the representation of a basis index, its block, and the column there
--   base                          the basis index below
--   place                         the basis index of a block above one below
--   place_up, place-block, base-place      its representation, its block, and what is below it
--   toward                        where a generator above i leads a representation
--   toward-width, toward-count    to one with blocks as wide and as many
--   to_part                       and from block to block as it leads their references
use mathlib.Core.Path.{◌≡◌, refl, sym, ◌∙◌, ap, ap₂, subst}
use Prim.Native.Nat.{ℕ, zero, suc, ◌+◌, ◌*◌, ◌%◌, ◌/◌, ◌<◌}
use native.Mathlib.Nat.{mod-lt, mod-add-div', div-lt_iff_lt-mul, mul-div_cancel, zero-mul}
use native.Mathlib.Omega.{arith}
use lib.Arith.{digits_lt, digits_div, digits_mod}
use lib.ListN.{length}
use Rattle.definitions.specs.Monomial.{rep_of}
use Rattle.clifford.proofs.Basis.{Basis}
use Rattle.fitting.proofs.Parts.{Fitted, Up, fit, count, width, part, to, part_below, to_below}
use Rattle.fitting.proofs.Spots.{column-width}

module _ (W : Fitted) where
  open W use {R, High, fits}
  open W.R use {L, Ω, F}
  open W.R.stands use {column, complete}

  abbrev pub Index : Type 0
  Index = Basis W.High

  abbrev pub up_of : Index → Up W
  up_of x = (x.0.0, x.1.0)

  abbrev pub block : Index → ℕ
  block x = x.0.1 / width W (up_of x)

  abbrev pub inner : Index → ℕ
  inner x = x.0.1 % width W (up_of x)

  pub block_below : (x : Index) → block x < count W (up_of x)
  block_below x = (div-lt_iff_lt-mul (fit W (up_of x)).cut.width_pos).1 (subst (λ z. x.0.1 < z) (fit W (up_of x)).cut.degree x.1.1)

  pub split : (x : Index) → block x * width W (up_of x) + inner x ≡ x.0.1
  split x = omega (arith, mod-add-div' x.0.1 (width W (up_of x)))

  -- ---- The basis index below

  part_in : (x : Index) → part W (up_of x) (block x) < length L
  part_in x = part_below W (up_of x) (block x) (block_below x)

  inner_below : (x : Index) → inner x < (rep_of L (part W (up_of x) (block x))).deg
  inner_below x =
      subst (λ z. inner x < z) (sym ((fit W (up_of x)).cut.part_degree (block x) (block_below x))) (mod-lt x.0.1 (fit W (up_of x)).cut.width_pos)

  -- the column of its block, in the representation to which the block refers
  pub base : Index → W.R.Ω
  base x = complete.find (part W (up_of x) (block x)) (inner x) (part_in x) (inner_below x)

  pub base-rep : (x : Index) → W.R.F.rep (base x) ≡ part W (up_of x) (block x)
  unfolding base
  base-rep x = complete.find_rep (part W (up_of x) (block x)) (inner x) (part_in x) (inner_below x)

  pub base-column : (x : Index) → W.R.stands.column (base x) ≡ inner x
  unfolding base
  base-column x = complete.find_column (part W (up_of x) (block x)) (inner x) (part_in x) (inner_below x)

  -- ---- The basis index above

  -- above a, in block k of u
  unfoldable pub place : (u : Up W) (k : ℕ) → k < count W u → (a : W.R.Ω) → W.R.F.rep a ≡ part W u k → Index
  place u k l a e = (
    (u.0, k * width W u + column a),
    (u.1, subst (λ z. k * width W u + column a < z) (sym (fit W u).cut.degree) (digits_lt l (column-width W u k l a e))),
  )

  module _ (u : Up W) (k : ℕ) (l : k < count W u) (a : W.R.Ω) (e : W.R.F.rep a ≡ part W u k) where
    pub place_up : up_of (place u k l a e) ≡ u
    unfolding place
    place_up = refl

    pub place-rep : (place u k l a e).0.0 ≡ u.0
    unfolding place
    place-rep = refl

    pub place-column : (place u k l a e).0.1 ≡ k * width W u + W.R.stands.column a
    unfolding place
    place-column = refl

    place-block : block (place u k l a e) ≡ k
    unfolding place
    place-block = digits_div k (column-width W u k l a e)

    place-inner : inner (place u k l a e) ≡ column a
    unfolding place
    place-inner = digits_mod k (column-width W u k l a e)

    pub base-place : base (place u k l a e) ≡ a
    base-place =
        complete.known (base (place u k l a e)) a (base-rep (place u k l a e) ∙ ap₂ (part W) place_up place-block ∙ sym e)
        (base-column (place u k l a e) ∙ place-inner)

  -- ---- Where a generator above leads

  count-pos : (u : Up W) → 0 < count W u
  count-pos u = go (count W u) refl
    where
      go : (c : ℕ) → count W u ≡ c → 0 < count W u
      go zero e =
          let z : count W u * width W u ≡ 0 = ap (λ c. c * width W u) e ∙ zero-mul (width W u) in
          absurd (omega (arith, fits.degree_pos u.0 u.1, (fit W u).cut.degree))
      go (suc c) e = omega arith

  ref-at : (u : Up W) (k : ℕ) → k < count W u → (rep_of High u.0).ref 0 (k * width W u) ≡ part W u k
  ref-at u k l =
      let z : k * width W u ≡ k * width W u + 0 = omega arith in
      ap ((rep_of High u.0).ref 0) z ∙ (fit W u).cut.refers 0 (omega arith) k 0 l (fit W u).cut.width_pos

  module _ (j : ℕ) (ij : W.R.i < j) (jn : j < W.R.T.n) where
    -- its reference in generator j
    abbrev pub toward : Up W → Up W
    toward u = ((rep_of W.High u.0).ref j 0, (fit W u).listed j ij jn)

    pub toward-width : (u : Up W) → width W (toward u) ≡ width W u
    toward-width u =
        let v : Up W = toward u in
        let z : 0 * width W v ≡ 0 = zero-mul (width W v) in
        sym ((fit W v).cut.part_degree 0 (count-pos v))
        ∙ ap (λ f. (rep_of L f).deg) (sym (ref-at v 0 (count-pos v)) ∙ ap ((rep_of High v.0).ref 0) z) ∙ (fit W u).same_width j ij jn

    toward-count : (u : Up W) → count W (toward u) ≡ count W u
    toward-count u =
        let v : Up W = toward u in
        let e : count W v * width W u ≡ count W u * width W u
        = ap (λ w. count W v * w) (sym (toward-width u)) ∙ sym (fit W v).cut.degree ∙ (fit W u).same_degree j ij jn ∙ (fit W u).cut.degree in
        sym (mul-div_cancel (count W v) (fit W u).cut.width_pos) ∙ ap (λ z. z / width W u) e ∙ mul-div_cancel (count W u) (fit W u).cut.width_pos

    pub to_in : (u : Up W) (k : ℕ) → k < count W u → to W u j k < count W (toward u)
    to_in u k l = subst (λ z. to W u j k < z) (sym (toward-count u)) (to_below W u j k (omega arith) jn l)

    pub to_part : (u : Up W) (k : ℕ) → k < count W u → part W (toward u) (to W u j k) ≡ W.R.F.target j (part W u k)
    to_part u k l =
        sym (ref-at (toward u) (to W u j k) (to_in u k l)) ∙ ap (λ w. (rep_of High (toward u).0).ref 0 (to W u j k * w)) (toward-width u)
        ∙ arrived ∙ sym (R.literal j (part W u k))
      where
        arrived : (rep_of High (toward u).0).ref 0 (to W u j k * width W u) ≡ (rep_of L (part W u k)).ref j 0
        arrived = unfold to in ((fit W u).arrives j k ij jn l)
