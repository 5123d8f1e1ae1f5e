-- A level that fits as a step over the family of the level below.
--
--   high-d                   the maps of normal forms
--   mapped, high-X           those of the generators above i
--   target                   where these lead
--   step, family             it is a step; its family
use mathlib.Core.Path.{◌≡◌, refl, sym, ◌∙◌, ap, ap₂, subst}
use Prim.Native.Nat.{ℕ, suc, ◌+◌, ◌*◌, ◌<◌}
use native.Mathlib.Omega.{arith}
use native.Mathlib.Decide.{ℕ_discrete}
use Rattle.definitions.specs.Lists.{iter}
use Rattle.definitions.specs.Monomial.{rep_of}
use Rattle.group.specs.Context.{Context, Nf}
use Rattle.group.proofs.Level.{level, conj_nf}
use Rattle.monomial.specs.Exponents.{times, Residue}
use Rattle.monomial.specs.Maps.{Map, maps}
use Rattle.monomial.specs.Families.{Family}
use Rattle.monomial.specs.Over.{At}
use Rattle.monomial.proofs.Residues.{residues}
use Rattle.clifford.proofs.Numbering.{P, τ, S}
use Rattle.clifford.proofs.Levels.{exponent_nf}
use Rattle.clifford.proofs.Top.{Normed, raised, raised-maps, q, q-const}
use Rattle.clifford.proofs.Step as StepOf
use Rattle.clifford.proofs.Step.{numbered, StepUp}
use Rattle.clifford.proofs.Between.{between, between_is}
use Rattle.clifford.proofs.Extensions.{E, first, first_rep}
use Rattle.clifford.proofs.Basis.{basis-path, basis-discrete}
use Rattle.fitting.proofs.Parts.{Fitted, Up, up-path, count, width, part, to, turn, part_below, turns-below, part-iter, one-fixed, reach}
use Rattle.fitting.proofs.Spots.{scalar}
use Rattle.fitting.proofs.Scales.{Some, some, 𝓢, ε, ρ, number, number_small, number-many, same_block}
use Rattle.fitting.proofs.Places.{Index, up_of, block, inner, block_below, split, base, base-rep, base-column}
use Rattle.fitting.proofs.Places.{place, place_up, place-rep, base-place, toward, to_in, to_part}
use Rattle.fitting.proofs.Closing.{closes_at}

module _ (W : Fitted) where
  open W use {R, High}
  open W.R use {T, i, Ω, F}
  open W.R.stands use {column}
  open residues W.R.m W.R.pos use {add, nil}

  abbrev C : Context
  C = T.context

  abbrev number_of : Index W → ℕ
  number_of x = number W (up_of W x)

  -- generator i takes blocks where it takes what is below
  base-iter : (x : Index W) (n : ℕ) → part W (up_of W x) (iter (turn W (up_of W x)) n (block W x)) ≡ iter (τ R) n (F.rep (base W x))
  base-iter x n = part-iter W (up_of W x) (block W x) n (block_below W x) ∙ ap (iter (τ R) n) (sym (base-rep W x))

  -- ---- The maps of normal forms

  abbrev 𝓨 : Index W → Normed (S R) F
  𝓨 x = numbered (S R) F (𝓢 W) (ρ W) (number W (up_of W x))

  raised-rep : (w : Nf C (suc i)) (x : Index W)
      → F.rep (raised (S R) F (𝓨 x) w (base W x)).0 ≡ part W (up_of W x) (iter (turn W (up_of W x)) (exponent_nf C i w) (block W x))
  raised-rep w x = raised-maps (S R) F (𝓨 x) w (base W x) ∙ sym (base-iter x (exponent_nf C i w))

  -- above what the numbered family below does
  unfoldable pub high-d : Nf W.R.T.context (suc W.R.i) → Map (E W.R) (Index W)
  unfolding raised-rep base-iter
  high-d w x =
      let u : Up W = up_of W x in
      let z = raised (S R) F (𝓨 x) w (base W x) in
      let k : ℕ = iter (turn W u) (exponent_nf C i w) (block W x) in
      (place W u k (turns-below W u (block W x) _ (block_below W x)) z.0 (raised-rep w x), z.1)

  -- ---- The maps of the generators above

  module _ (j : ℕ) (ij : W.R.i < j) (jn : j < W.R.T.n) where
    mapped-rep : (x : Index W) → F.rep (F.X j (base W x)).0 ≡ part W (toward W j ij jn (up_of W x)) (to W (up_of W x) j (block W x))
    mapped-rep x =
        F.maps_to j (omega arith) jn (base W x) ∙ ap (F.target j) (base-rep W x) ∙ sym (to_part W j ij jn (up_of W x) (block W x) (block_below W x))

    -- above what the intertwiner below does, with the scalar of the block
    unfoldable pub mapped : Map (E W.R) (Index W)
    unfolding mapped-rep
    mapped x =
        let u : Up W = up_of W x in
        let k : ℕ = block W x in
        let z = F.X j (base W x) in
        (place W (toward W j ij jn u) (to W u j k) (to_in W j ij jn u k (block_below W x)) z.0 (mapped-rep x), add z.1 (scalar W u j k))

  abbrev pub high-X : ℕ → Map (E W.R) (Index W)
  high-X = between W.R.i W.R.T.n mapped (maps (E W.R) (Index W)).one

  pub high-X-is : (j : ℕ) (ij : W.R.i < j) (jn : j < W.R.T.n) → high-X j ≡ mapped j ij jn
  high-X-is = between_is i T.n mapped (maps (E R) (Index W)).one

  -- where generator j leads representation r
  abbrev pub target : ℕ → ℕ → ℕ
  target j r = (rep_of W.High r).ref j 0

  -- ---- What belongs to a block, told by its reference and its number

  abbrev Is : ℕ → ℕ → (u : Up W) (k : ℕ) → k < count W u → Type 0
  Is f κ u k l = (part W u k ≡ f) × (number W u ≡ κ)

  both : {A B : Type 0} → Dec A → Dec B → Dec (A × B)
  both (yes a) (yes b) = yes (a, b)
  both (yes a) (no b) = no (λ q. b q.1)
  both (no a) d = no (λ q. a q.0)

  found : (f κ : ℕ) → Dec (Some W (Is f κ))
  found f κ = some W (Is f κ) (λ u k l. both (ℕ_discrete (part W u k) f) (ℕ_discrete (number W u) κ))

  from : {A : Type 0} (f κ : ℕ) → Dec (Some W (Is f κ)) → (Up W → ℕ → A) → A → A
  from f κ (yes b) g z = g b.u b.k
  from f κ (no b) g z = z

  -- g of the block with reference f and number κ, and z where there is none
  select : {A : Type 0} → (Up W → ℕ → A) → A → ℕ → ℕ → A
  select g z f κ = from f κ (found f κ) g z

  select-at : {A : Type 0} (g : Up W → ℕ → A) (z : A) (u : Up W) (k : ℕ) → k < count W u → select g z (part W u k) (number W u) ≡ g u k
  unfolding select from
  select-at g z u k l = go (found (part W u k) (number W u))
    where
      go : (d : Dec (Some W (Is (part W u k) (number W u)))) → from (part W u k) (number W u) d g z ≡ g u k
      go (yes b) = let (e, f) = same_block W b.u u b.k k b.l l b.holds.0 b.holds.1 in ap₂ g e f
      go (no b) = absurd (b (record { u = u; k = k; l = l; holds = (refl, refl) }))

  -- at a basis index, and at its image under a power of generator i
  select-base : {A : Type 0} (g : Up W → ℕ → A) (z : A) (x : Index W) → select g z (F.rep (base W x)) (number_of x) ≡ g (up_of W x) (block W x)
  select-base g z x = ap (λ f. select g z f (number_of x)) (base-rep W x) ∙ select-at g z (up_of W x) (block W x) (block_below W x)

  select-moved : {A : Type 0} (g : Up W → ℕ → A) (z : A) (x : Index W) (n : ℕ)
      → select g z (iter (τ R) n (F.rep (base W x))) (number_of x) ≡ g (up_of W x) (iter (turn W (up_of W x)) n (block W x))
  select-moved g z x n =
      ap (λ f. select g z f (number_of x)) (sym (base-iter x n))
      ∙ select-at g z (up_of W x) _ (turns-below W (up_of W x) (block W x) n (block_below W x))

  -- ---- The intertwiners

  module _ (j : ℕ) (ij : W.R.i < j) (jn : j < W.R.T.n) where
    -- scalar and number of the intertwiner above a reference and a number
    abbrev c : ℕ → ℕ → Residue R.m
    c = select (λ u k. scalar W u j k) nil

    abbrev ν : ℕ → ℕ → ℕ
    ν = select (λ u k. number W (toward W j ij jn u)) 0

    abbrev A : ℕ
    A = suc ((P R).w i j).0

    ν-at : (x : Index W) → ν (F.rep (base W x)) (number_of x) ≡ number W (toward W j ij jn (up_of W x))
    ν-at x = select-base (λ u k. number W (toward W j ij jn u)) 0 x

    c-at : (x : Index W) → c (F.rep (base W x)) (number_of x) ≡ scalar W (up_of W x) j (block W x)
    c-at x = select-base (λ u k. scalar W u j k) nil x

    number_stays : (x : Index W) → ν (iter (τ R) A (F.rep (base W x))) (number_of x) ≡ ν (F.rep (base W x)) (number_of x)
    number_stays x = select-moved (λ u k. number W (toward W j ij jn u)) 0 x A ∙ sym (ν-at x)

    closes : (x : Index W)
        → add (q (S R) F (𝓢 W) j ij jn (base W x)) (add (times (E R) A (times (E R) (number_of x) (ε W))) (c (iter (τ R) A (F.rep (base W x))) (number_of x)))
        ≡ add (c (F.rep (base W x)) (number_of x)) (times (E R) (ν (F.rep (base W x)) (number_of x)) (ε W))
    closes x =
        let u : Up W = up_of W x in
        let k : ℕ = block W x in
        ap₂ (λ y z. add y (add (times (E R) A (times (E R) (number_of x) (ε W))) z))
        (q-const (S R) F (𝓢 W) j ij jn (base W x) (first R (part W u k)) (base-rep W x ∙ sym (first_rep R (part W u k) (part_below W u k (block_below W x)))))
        (select-moved (λ u k. scalar W u j k) nil x A)
        ∙ closes_at W j ij jn u k (block_below W x) ∙ sym (ap₂ (λ y z. add y (times (E R) z (ε W))) (c-at x) (ν-at x))

    -- f takes x to what is above its image under the intertwiner below
    abbrev Above : Map (E R) (Index W) → Index W → Type 0
    Above f x = At (E R) (base W) number_of (f x) (F.X j (base W x)).0 (ν (F.rep (base W x)) (number_of x))
        (add (F.X j (base W x)).1 (c (F.rep (base W x)) (number_of x)))

    up : (x : Index W) → Above (high-X j) x
    up x = subst (λ (f : Map (E R) (Index W)). Above f x) (sym (high-X-is j ij jn)) mapped-above
      where
        mapped-above : Above (mapped j ij jn) x
        mapped-above = unfold mapped in (record {
          is_base = base-place W _ _ _ _ _;
          is_number = ap (number W) (place_up W _ _ _ _ _) ∙ sym (ν-at x);
          is_exponent = ap (add (F.X j (base W x)).1) (sym (c-at x));
        })

    pub mapped-to : (x : Index W) → (high-X j x).0.0.0 ≡ target j x.0.0
    unfolding mapped
    mapped-to x = ap (λ f. (f x).0.0.0) (high-X-is j ij jn) ∙ place-rep W _ _ _ _ _

  -- ---- The step

  injective : (x y : Index W) → base W x ≡ base W y → number_of x ≡ number_of y → x ≡ y
  injective x y e n =
      let s : part W (up_of W x) (block W x) ≡ part W (up_of W y) (block W y) = sym (base-rep W x) ∙ ap F.rep e ∙ base-rep W y in
      let (a, b) = same_block W (up_of W x) (up_of W y) (block W x) (block W y) (block_below W x) (block_below W y) s n in
      let w : width W (up_of W x) ≡ width W (up_of W y) = ap (width W) a in
      let c : inner W x ≡ inner W y = sym (base-column W x) ∙ ap column e ∙ base-column W y in
      basis-path High x y (ap (λ u. u.0) a) (sym (split W x) ∙ ap₂ (◌+◌) (ap₂ (◌*◌) b w) c ∙ split W y)

  plain : (x : Index W) → ¬ (τ R (F.rep (base W x)) ≡ F.rep (base W x)) → number_of x ≡ 0
  plain x mv =
      number-many W (up_of W x) (λ e. mv (subst (λ s. τ R s ≡ s) (sym (base-rep W x)) (one-fixed W (up_of W x) (block W x) e (block_below W x))))

  one_orbit : (x y : Index W) → x.0.0 ≡ y.0.0 → (number_of x ≡ number_of y) × ((k : ℕ) × (iter (τ R) k (F.rep (base W x)) ≡ F.rep (base W y)))
  one_orbit x y e =
      let u : Up W = up_of W x in
      let s : u ≡ up_of W y = up-path W u (up_of W y) e in
      let (k, f) = reach W u (block W x) (block W y) (block_below W x) (subst (λ u. block W y < count W u) (sym s) (block_below W y)) in
      let g : part W u (iter (turn W u) k (block W x)) ≡ F.rep (base W y) = ap (part W u) f ∙ ap (λ u. part W u (block W y)) s ∙ sym (base-rep W y) in
      (ap (number W) s, (k, sym (base-iter x k) ∙ g))

  one_rep : (x y : Index W) → number_of x ≡ number_of y → (k : ℕ) → iter (τ R) k (F.rep (base W x)) ≡ F.rep (base W y) → x.0.0 ≡ y.0.0
  one_rep x y n k e =
      let u : Up W = up_of W x in
      let l : iter (turn W u) k (block W x) < count W u = turns-below W u (block W x) k (block_below W x) in
      let (a, b) = same_block W u (up_of W y) (iter (turn W u) k (block W x)) (block W y) l (block_below W y) (base-iter x k ∙ e ∙ base-rep W y) n in
      ap (λ u. u.0) a

  pub step : StepUp (S W.R) W.R.F (𝓢 W) (ρ W) (base W) (λ x. number W (up_of W x)) high-d high-X (λ (x : Index W). x.0.0) target
  unfolding high-d
  step = record {
    c = λ j ij jn. c j ij jn;
    ν = ν;
    decide = basis-discrete High;
    injective = injective;
    small = λ x. number_small W (up_of W x);
    plain = plain;
    over = λ w x. record { is_base = base-place W _ _ _ _ _; is_number = ap (number W) (place_up W _ _ _ _ _); is_exponent = refl };
    up = up;
    number_stays = number_stays;
    closes = closes;
    maps_to = mapped-to;
    one_orbit = one_orbit;
    one_rep = one_rep;
  }

  abbrev pub family : let C = W.R.T.context in Family (E W.R) (Index W) (level C (suc W.R.i)) (conj_nf C (suc W.R.i)) (suc W.R.i) W.R.T.n
  family = StepOf.next (S W.R) W.R.F (𝓢 W) (ρ W) (base W) (λ x. number W (up_of W x)) high-d high-X (λ (x : Index W). x.0.0) target step
