-- The family of the next level, on the basis indices of the steps.
--
--   target-orbit              where generator j maps an orbit is one orbit
--   target_below, target_fixed, target-moved      where generator j maps a representation
--   next-d, next-X            the maps of the next level
--   next-X-is                 an intertwiner, by its generator
--   next-target               where it maps, as the next level refers to it
--   family                    they are a family of the next level
use mathlib.Core.Path.{◌≡◌, refl, sym, ◌∙◌, ap, ap₂, subst}
use mathlib.Core.Logic.{by_cases}
use mathlib.Core.Bool.{cond}
use Prim.Native.Nat.{ℕ, zero, suc, ◌+◌, ◌*◌, ◌-◌, ◌%◌, ◌<◌, ◌∣◌}
use native.Mathlib.Nat.{mod-lt, add-zero}
use native.Mathlib.Omega.{arith}
use native.Mathlib.Decide.{ℕ_discrete}
use lib.Dec.{leb}
use borrow.Author.Tests.{lt-leb}
use Rattle.definitions.specs.Lists.{sum, iter}
use Rattle.definitions.specs.Monomial.{Rep, rep_of}
use Rattle.definitions.specs.Steps
use Rattle.numbers.proofs.Bools.{cond-false}
use Rattle.numbers.proofs.Lists.{iter-zero, iter-add}
use Rattle.numbers.proofs.Iterates.{iter-out}
use Rattle.numbers.proofs.Sums.{stretch-one}
use Rattle.numbers.proofs.Orbits.{leader, position, unit-onto, iter-below, iter-mod, leader-below, leader-iter, leader-fixed, leader-moved, leader-reaches}
use Rattle.numbers.proofs.Orbits.{position-back}
use Rattle.group.specs.Context.{Nf}
use Rattle.group.proofs.Level.{level, conj_nf}
use Rattle.monomial.specs.Maps.{Map, maps}
use Rattle.monomial.specs.Families.{Family}
use Rattle.monomial.proofs.Residues.{log}
use Rattle.clifford.specs.Stands.{Rung}
use Rattle.clifford.proofs.Numbering.{leader-ahead, p, N, rep, τ, S, ready, O, rep_below, leader-same, made, next, made_of, made-of-fixed}
use Rattle.clifford.proofs.Indices.{Index, base, number, mk, Index-path, Index-discrete, next-rep, number-fixed, number-moved, rep-fixed, rep-moved}
use Rattle.clifford.proofs.Top.{Normed, raised, raised-maps, swap, fixed-stays, fixed_back}
use Rattle.clifford.proofs.Step as StepOf
use Rattle.clifford.proofs.Step.{numbered, StepUp}
use Rattle.clifford.proofs.Scalars.{parts, unit-shift, q̂, c, ν, ν-fixed, ν-moved, ν-below, number_stays, closes}
use Rattle.clifford.proofs.Between.{between, between_is}
use Rattle.clifford.proofs.Extensions.{E, 𝓢, ρ, first, first_rep, l-is}

module _ (R : Rung) where
  open R use {T, m, pos, i, L, Ω, F, stands}
  open S R use {shift as A}

  -- ---- Targets

  module _ (j : ℕ) (ij : i < j) (jn : j < T.n) where
    abbrev to : ℕ → ℕ
    to = F.target j

    -- a fact about the representations of basis indices is one about those below N
    pub at-rep : (Q : ℕ → Type 0) → ((a : Ω) → Q (rep R a)) → (r : ℕ) → r < N R → Q r
    at-rep Q h r l = subst Q (first_rep R r l) (h (first R r))

    pub target_below : (r : ℕ) → r < N R → F.target j r < N R
    target_below = at-rep (λ r. to r < N R) (λ a. subst (λ s. s < N R) (F.maps_to j (omega arith) jn a) (rep_below R (F.X j a).0))

    pub target_fixed : (r : ℕ) → r < N R → τ R r ≡ r → τ R (F.target j r) ≡ F.target j r
    target_fixed = at-rep (λ r. τ R r ≡ r → τ R (to r) ≡ to r) (fixed-stays (S R) F (𝓢 R) j ij jn)

    pub target-moved : (r : ℕ) → r < N R → ¬ (τ R r ≡ r) → ¬ (τ R (F.target j r) ≡ F.target j r)
    target-moved = at-rep (λ r. ¬ (τ R r ≡ r) → ¬ (τ R (to r) ≡ to r)) (λ a f g. f (fixed_back (S R) F (𝓢 R) j ij jn a g))

    pub moved-unit : (r : ℕ) → r < N R → ¬ (τ R r ≡ r) → ¬ (p R ∣ (S R).shift j)
    moved-unit = at-rep (λ r. ¬ (τ R r ≡ r) → ¬ (p R ∣ A j)) (unit-shift (S R) m pos F (ready R) j ij jn)

    steps : (t r : ℕ) → r < N R → to (iter (τ R) (A j * t) r) ≡ iter (τ R) t (to r)
    steps zero r h = let z : A j * 0 ≡ 0 = omega arith in ap (λ k. to (iter (τ R) k r)) z ∙ ap to (iter-zero (τ R) r) ∙ sym (iter-zero (τ R) (to r))
    steps (suc t) r h =
        let z : A j * suc t ≡ A j * t + A j = omega arith in
        ap (λ k. to (iter (τ R) k r)) z ∙ ap to (sym (iter-add (τ R) (A j * t) (A j) r))
        ∙ at-rep (λ s. to (iter (τ R) (A j) s) ≡ τ R (to s)) (swap (S R) F (𝓢 R) j ij jn) (iter (τ R) (A j * t) r) (iter-below (O R) (A j * t) r h)
        ∙ ap (τ R) (steps t r h) ∙ sym (iter-out (τ R) t (to r))

    pub target-orbit : (k r : ℕ) → r < N R → ¬ (τ R r ≡ r) → leader (O R) (F.target j (iter (τ R) k r)) ≡ leader (O R) (F.target j r)
    target-orbit k r h f =
        let (t, l, e) = unit-onto (O R) (A j) (moved-unit r h f) (k % p R) (mod-lt k (omega (arith, T.context.two i))) in
        ap (λ s. leader (O R) (to s)) (sym (iter-mod (O R) k r h) ∙ ap (λ k. iter (τ R) k r) (sym e) ∙ iter-mod (O R) (A j * t) r h)
        ∙ ap (leader (O R)) (steps t r h) ∙ leader-iter (O R) t (to r) (target_below r h)

    pub target-leader : (r : ℕ) → r < N R → ¬ (τ R r ≡ r) → leader (O R) (F.target j (leader (O R) r)) ≡ leader (O R) (F.target j r)
    target-leader r h f =
        let (k, a, b) = leader-reaches (O R) r h in
        sym (target-orbit k (leader (O R) r) (leader-below (O R) r h) (leader-moved (O R) r h f)) ∙ ap (λ s. leader (O R) (to s)) b

  -- ---- The maps of the next level

  abbrev 𝓨 : ℕ → Normed (S R) F
  𝓨 κ = numbered (S R) F (𝓢 R) (ρ R) κ

  raised-number : (x : Index R) (w : Nf T.context (suc i)) → number R x < made R (leader (O R) (rep R (raised (S R) F (𝓨 (number R x)) w (base R x)).0))
  raised-number x w =
      subst (λ s. number R x < made R s)
      (sym (ap (leader (O R)) (raised-maps (S R) F (𝓨 (number R x)) w (base R x)) ∙ leader-iter (O R) _ (rep R (base R x)) (rep_below R (base R x)))) x.1

  unfoldable pub next-d : Nf T.context (suc i) → Map (E R) (Index R)
  unfolding raised-number
  next-d w x = let z = raised (S R) F (𝓨 (number R x)) w (base R x) in (mk R z.0 (number R x) (raised-number x w), z.1)

  module _ (j : ℕ) (ij : i < j) (jn : j < T.n) where
    abbrev ν' : ℕ → ℕ → ℕ
    ν' = ν (S R) m pos F (ready R) j ij jn

    mapped-number : (x : Index R) → ν' (rep R (base R x)) (number R x) < made R (leader (O R) (rep R (F.X j (base R x)).0))
    mapped-number x =
        let r : ℕ = rep R (base R x) in
        let h : r < N R = rep_below R (base R x) in
        subst (λ s. ν' r (number R x) < made R (leader (O R) s)) (sym (F.maps_to j (omega arith) jn (base R x))) (by_cases (ℕ_discrete (τ R r) r)
        (λ f. subst (λ s. ν' r (number R x) < s) (sym (made-of-fixed R (F.target j r) (target_below j ij jn r h) (target_fixed j ij jn r h f)))
        (ν-below (S R) m pos F (ready R) j ij jn r (number R x)))
        (λ f. subst (λ s. ν' r (number R x) < s) (sym (made_of R (F.target j r) (target_below j ij jn r h) (target-moved j ij jn r h f)))
        (omega (arith, ν-moved (S R) m pos F (ready R) j ij jn r (number R x) f))))

    unfoldable pub mapped : Map (E R) (Index R)
    unfolding mapped-number
    mapped x = (
      mk R (F.X j (base R x)).0 (ν (S R) m pos F (ready R) j ij jn (rep R (base R x)) (number R x)) (mapped-number x),
      (E R).add (F.X j (base R x)).1 (c (S R) m pos F (ready R) j ij jn (rep R (base R x))),
    )

  abbrev pub next-X : ℕ → Map (E R) (Index R)
  next-X = between i T.n mapped (maps (E R) (Index R)).one

  pub next-X-is : (j : ℕ) (ij : i < j) (jn : j < T.n) → next-X j ≡ mapped j ij jn
  next-X-is = between_is i T.n mapped (maps (E R) (Index R)).one

  abbrev pub next-target : ℕ → ℕ → ℕ
  next-target j r = (rep_of (next R) r).ref j 0

  -- ---- Where the next level maps

  module _ (j : ℕ) (ij : i < j) (jn : j < T.n) (x : Index R) where
    abbrev rx : ℕ
    rx = rep R (base R x)

    above : {B : Type 0} (y z : B) → cond (leb j i) y z ≡ z
    above y z = cond-false (leb j i) y z (lt-leb j i ij)

    abbrev to-rx : ℕ
    to-rx = F.target j rx

    ref-fixed : τ R rx ≡ rx
        → next-target j (next-rep R x)
        ≡ sum to-rx (made R) + (log m pos (parts (S R) m pos F (ready R)) (q̂ (S R) m pos F (ready R) j ij jn rx) + number R x * A j) % p R
    unfolding Steps.extension Steps.start Steps.a
    ref-fixed f =
        ap (λ (D : Rep). D.ref j 0) (rep-fixed R x f) ∙ above _ _
        ∙ ap₂ (λ s l. s + (l + number R x * A j) % p R) (ap (λ r. sum r (made R)) (sym (R.literal j rx)))
        (l-is R j ij jn rx (rep_below R (base R x)) f)

    ref-moved : ¬ (τ R rx ≡ rx) → next-target j (next-rep R x) ≡ sum (leader (O R) to-rx) (made R)
    unfolding Steps.induction Steps.start
    ref-moved f =
        ap (λ (D : Rep). D.ref j 0) (rep-moved R x f) ∙ above _ _
        ∙ ap (λ s. sum s (made R))
        (leader-same R _ ∙ ap (leader (O R)) (sym (R.literal j (leader (O R) rx))) ∙ target-leader j ij jn rx (rep_below R (base R x)) f)

    mapped-target : next-rep R (mapped j ij jn x).0 ≡ next-target j (next-rep R x)
    unfolding mapped next-rep
    mapped-target =
        let h : rx < N R = rep_below R (base R x) in
        let start : sum (leader (O R) (rep R (F.X j (base R x)).0)) (made R) ≡ sum (leader (O R) to-rx) (made R)
        = ap (λ s. sum (leader (O R) s) (made R)) (F.maps_to j (omega arith) jn (base R x)) in
        by_cases (ℕ_discrete (τ R rx) rx)
        (λ f. ap₂ (◌+◌) (start ∙ ap (λ s. sum s (made R)) (leader-fixed (O R) to-rx (target_below j ij jn rx h) (target_fixed j ij jn rx h f)))
        (ν-fixed (S R) m pos F (ready R) j ij jn rx (number R x) f) ∙ sym (ref-fixed f))
        (λ f. ap₂ (◌+◌) start (ν-moved (S R) m pos F (ready R) j ij jn rx (number R x) f) ∙ add-zero _ ∙ sym (ref-moved f))

  -- ---- The step

  same-orbit : (x y : Index R) → leader (O R) (rep R (base R x)) ≡ leader (O R) (rep R (base R y))
      → (k : ℕ) × (iter (τ R) k (rep R (base R x)) ≡ rep R (base R y))
  same-orbit x y e =
      let r : ℕ = rep R (base R x) in
      let k : ℕ = p R - position (O R) r in
      let b' : ℕ = position (O R) (rep R (base R y)) in (
        k + b',
        sym (iter-add (τ R) k b' r) ∙ ap (iter (τ R) b') (leader-ahead (O R) r (rep_below R (base R x)) ∙ e)
            ∙ position-back (O R) (rep R (base R y)) (rep_below R (base R y)),
      )

  pub step : StepUp (S R) F (𝓢 R) (ρ R) (base R) (number R) next-d next-X (next-rep R) next-target
  unfolding next-d next-rep mapped
  step = record {
    c = λ j ij jn r κ. c (S R) m pos F (ready R) j ij jn r;
    ν = ν (S R) m pos F (ready R);
    decide = Index-discrete R;
    injective = Index-path R;
    small = λ x. by_cases (ℕ_discrete (τ R (rep R (base R x))) (rep R (base R x))) (number-fixed R x)
        (λ f. omega (arith, number-moved R x f, T.context.two i));
    plain = number-moved R;
    over = λ w x. record { is_base = refl; is_number = refl; is_exponent = refl };
    up = λ j ij jn x. rw (next-X-is j ij jn) (record { is_base = refl; is_number = refl; is_exponent = refl });
    number_stays = λ j ij jn x. number_stays (S R) m pos F (ready R) j ij jn (base R x) (number R x);
    closes = λ j ij jn x. closes (S R) m pos F (ready R) j ij jn (base R x) (number R x) (number-moved R x);
    maps_to = λ j ij jn x. ap (λ f. next-rep R (f x).0) (next-X-is j ij jn) ∙ mapped-target j ij jn x;
    one_orbit = λ x y e.
        let (s, k) = stretch-one (made R) (leader (O R) (rep R (base R x))) (number R x) (leader (O R) (rep R (base R y))) (number R y) x.1 y.1 e in
        (k, same-orbit x y s);
    one_rep = λ x y e k q. ap₂ (λ r κ. sum r (made R) + κ) (sym (leader-iter (O R) k (rep R (base R x)) (rep_below R (base R x))) ∙ ap (leader (O R)) q) e;
  }

  abbrev pub family : Family (E R) (Index R) (level T.context (suc i)) (conj_nf T.context (suc i)) (suc i) T.n
  family = StepOf.next (S R) F (𝓢 R) (ρ R) (base R) (number R) next-d next-X (next-rep R) next-target step
