-- The scalars of the steps, modulo m, close: s / p for an extension, the last block of an induction, the number l to
-- which an intertwiner maps an extension, and the scalars c of an intertwiner along an orbit.
--
--   parts, orbits                           what m and the representations give
--   σ, σ-fixed, σ-last, σ-other, normed     the scalars of the new matrix
--   roots                                   the p roots that number the extensions
--   q̂, q-first                              the scalar between X_j φ and Y X_j, by representation
--   unit-shift                              p does not divide the shift of j where something moves
--   c, c-fixed, c-moved, ν, ν-fixed, ν-moved, ν-below      scalars and numbers of the intertwiner of j
--   number_stays, closes                    what a step asks of them
use mathlib.Core.Path.{◌≡◌, refl, sym, ◌∙◌, ap, ap₂, subst}
use mathlib.Core.Logic.{by_cases}
use mathlib.Core.Bool.{cond}
use Prim.Native.Nat.{ℕ, zero, suc, ◌+◌, ◌*◌, ◌-◌, ◌%◌, ◌<◌, ◌∣◌}
use native.Mathlib.Nat.{mod-lt, mod-eq_of_lt, mod_self, mod-eq-sub-mod, mod-eq-zero_of_dvd}
use native.Mathlib.Omega.{arith}
use native.Mathlib.Decide.{dec_lt, ℕ_discrete}
use lib.Dec.{eqb}
use Rattle.definitions.specs.Lists.{iter}
use Rattle.definitions.specs.Presentation.{Mul, power}
use Rattle.numbers.proofs.Bools.{cond-eq, cond-ne}
use Rattle.numbers.proofs.Lists.{iter-zero, iter-suc, iter-fix}
use Rattle.numbers.proofs.Iterates.{iter-iter}
use Rattle.numbers.proofs.Orbits.{Orbits, leader, position, paces, iter-mod, iter-moved, leader-below, leader-iter, position-below, position-iter, paces-below}
use Rattle.numbers.proofs.Orbits.{paces-back, paces-next}
use Rattle.monomial.specs.Exponents.{Exponents, total, times, Residue, Parts}
use Rattle.monomial.specs.Maps.{maps}
use Rattle.monomial.specs.Families.{Family}
use Rattle.monomial.proofs.Exponents.{idr, negl, neg_of, total-zero, total-suc, total_ext, total-single, times-nil, times-add, times-mul}
use Rattle.monomial.proofs.Residues.{residues, root-divides, part, part-times, neg-divides, unit, unit-p, unit-injective, unit-mod, log, log-times}
use Rattle.clifford.specs.Extension.{Extension}
use Rattle.clifford.specs.Ready.{Ready}
use Rattle.clifford.proofs.Defect.{defect, defect-const, defect-step, X-maps, target-home, root}
use Rattle.clifford.proofs.Top.{Normed, φ, φ-power-maps, q, q-const, around, swap, fixed_back}
use Rattle.clifford.proofs.Step.{Roots}

module _ {G G⁺ : Type 0} {𝓖 : Mul G} {𝓖⁺ : Mul G⁺} {conj : ℕ → G → G} {conj⁺ : ℕ → G⁺ → G⁺} {i n : ℕ} (S : Extension 𝓖 𝓖⁺ conj conj⁺ i n)
    (m : ℕ) (pos : 0 < m) {Ω : Type 0} (F : Family (residues m pos) Ω 𝓖 conj i n) where
  abbrev pub 𝓔 : Exponents (Residue m)
  𝓔 = residues m pos

  open residues m pos use {add, nil, neg}
  open F use {d, X, rep, target}
  open S use {p, shift}

  abbrev pub τ : ℕ → ℕ
  τ = target i

  abbrev pub T : Ω → Residue m
  T = defect S F

  module _ (Q : Ready S m pos F) where
    open Q use {count, rep_below, first, first_rep}

    abbrev pub parts : Parts m
    parts = record { p = S.p; share = Q.share; two = S.two; split = Q.split }

    pub tau-below : (r : ℕ) → r < count → τ r < count
    tau-below r h = subst (λ s. s < count) (X-maps S F (first r) ∙ ap τ (first_rep r h)) (rep_below (X i (first r)).0)

    pub tau-home : (r : ℕ) → r < count → iter τ p r ≡ r
    tau-home r h = subst (λ s. iter τ p s ≡ s) (first_rep r h) (target-home S F (first r))

    abbrev pub orbits : Orbits
    orbits = record { N = Q.count; p = S.p; τ = F.target i; two = S.two; units = Q.units; inside = tau-below; home = tau-home }

    first-same : (a : Ω) → rep (first (rep a)) ≡ rep a
    first-same a = first_rep (rep a) (rep_below a)

    T-first : (a : Ω) → T (first (rep a)) ≡ T a
    T-first a = defect-const S F _ a (first-same a)

    -- ---- The scalars of the new matrix

    unfoldable pub σ : ℕ → Residue m
    σ r = cond (eqb (τ r) r) (part m pos parts (neg (T (first r)))) (cond (eqb (position orbits r) (p - 1)) (neg (T (first r))) nil)

    pub σ-fixed : (r : ℕ) → τ r ≡ r → σ r ≡ part m pos parts (neg (T (first r)))
    unfolding σ
    σ-fixed r f = cond-eq (τ r) r _ _ f

    pub σ-last : (r : ℕ) → ¬ (τ r ≡ r) → position orbits r ≡ p - 1 → σ r ≡ neg (T (first r))
    unfolding σ
    σ-last r f b = cond-ne (τ r) r _ _ f ∙ cond-eq (position orbits r) (p - 1) _ _ b

    pub σ-other : (r : ℕ) → ¬ (τ r ≡ r) → ¬ (position orbits r ≡ p - 1) → σ r ≡ nil
    unfolding σ
    σ-other r f b = cond-ne (τ r) r _ _ f ∙ cond-ne (position orbits r) (p - 1) _ _ b

    T-divides : (a : Ω) → τ (rep a) ≡ rep a → p ∣ (T a).0
    T-divides a fx = let (x, z, q₁, q₂) = root S F a fx in root-divides m pos parts S.order Q.spare S.order_pos Q.split' (T a) x z q₁ q₂

    T-along : (k : ℕ) (a : Ω) → T (first (iter τ k (rep a))) ≡ T a
    T-along zero a = ap (λ r. T (first r)) (iter-zero τ (rep a)) ∙ T-first a
    T-along (suc k) a = ap (λ r. T (first r)) (iter-suc τ k (rep a) ∙ ap (iter τ k) (sym (X-maps S F a))) ∙ T-along k (X i a).0 ∙ defect-step S F a

    pub norm : (a : Ω) → add (total 𝓔 (λ k. σ (iter τ k (rep a))) p) (T a) ≡ nil
    norm a =
        let fixed : τ (rep a) ≡ rep a → total 𝓔 (λ k. σ (iter τ k (rep a))) p ≡ neg (T a) = λ f.
        total_ext 𝓔 (λ k. σ (iter τ k (rep a))) (λ k. σ (rep a)) p (λ k h. ap σ (iter-fix τ (rep a) f k)) ∙ ap (times 𝓔 p) (σ-fixed (rep a) f)
        ∙ (part-times m pos parts (neg (T (first (rep a))))
        (neg-divides m pos parts (T (first (rep a))) (subst (λ s. p ∣ s.0) (sym (T-first a)) (T-divides a f))))
        ∙ ap neg (T-first a) in
        let moved : ¬ (τ (rep a) ≡ rep a) → total 𝓔 (λ k. σ (iter τ k (rep a))) p ≡ neg (T a) = λ f.
        let b : ℕ = position orbits (rep a) in
        let b-below : b < p = position-below orbits (rep a) (rep_below a) in
        let mv : (k : ℕ) → ¬ (τ (iter τ k (rep a)) ≡ iter τ k (rep a)) = λ k. iter-moved orbits k (rep a) (rep_below a) f in
        let at : (k : ℕ) → position orbits (iter τ k (rep a)) ≡ (b + k) % p = λ k. position-iter orbits (rep a) k (rep_below a) f in
        let l : ℕ = p - 1 - b in
        let e : b + l ≡ p - 1 = omega arith in
        total-single 𝓔 (λ k. σ (iter τ k (rep a))) p l (neg (T a)) (omega (arith, S.two))
        (σ-last (iter τ l (rep a)) (mv l) (at l ∙ ap (λ x. x % p) e ∙ mod-eq_of_lt (omega (arith, S.two))) ∙ ap neg (T-along l a))
        (λ k h ne. σ-other (iter τ k (rep a)) (mv k) (λ e. away k b h b-below ne (sym (at k) ∙ e))) in
        ap (λ s. add s (T a)) (by_cases (ℕ_discrete (τ (rep a)) (rep a)) fixed moved) ∙ negl 𝓔 (T a)
      where
        -- only the last position of the orbit counts
        away : (k b : ℕ) → k < p → b < p → ¬ (k ≡ p - 1 - b) → (b + k) % p ≡ p - 1 → ⊥
        away k b h h' ne e = by_cases (dec_lt (b + k) p) (λ o. let w : b + k ≡ p - 1 = sym (mod-eq_of_lt o) ∙ e in ne (omega arith)) (λ o.
            let s₁ : (b + k - p) % p ≡ b + k - p = mod-eq_of_lt (omega arith) in
            let s₂ : (b + k) % p ≡ (b + k - p) % p = mod-eq-sub-mod (omega arith) in
            omega (arith, S.two))

    abbrev pub normed : Normed S F
    normed = record { σ = σ; norm = norm }

    abbrev pub roots : Roots S F normed
    roots = record { ε = unit m pos parts; ε-p = unit-p m pos parts; ε-injective = unit-injective m pos parts }

    -- ---- A generator above

    module _ (j : ℕ) (ij : i < j) (jn : j < n) where
      abbrev pub A : ℕ
      A = shift j

      abbrev Qj : Ω → Residue m
      Qj = q S F normed j ij jn

      unfoldable pub q̂ : ℕ → Residue m
      q̂ r = q S F normed j ij jn (first r)

      pub q-first : (a : Ω) → q̂ (rep a) ≡ q S F normed j ij jn a
      unfolding q̂
      q-first a = q-const S F normed j ij jn _ a (first-same a)

      pub unit-shift : (a : Ω) → ¬ (τ (rep a) ≡ rep a) → ¬ (p ∣ A)
      unit-shift a mv h =
          let stay = sym (iter-mod orbits A (rep a) (rep_below a)) ∙ ap (λ k. iter τ k (rep a)) (mod-eq-zero_of_dvd p h) ∙ iter-zero τ (rep a) in
          mv (fixed_back S F normed j ij jn a (sym (swap S F normed j ij jn a) ∙ ap (target j) stay))

      unfoldable pub c : ℕ → Residue m
      c r = cond (eqb (τ r) r) nil (neg (total 𝓔 (λ k. q̂ (iter τ (A * k) (leader orbits r))) (paces orbits A r)))

      unfoldable pub ν : ℕ → ℕ → ℕ
      ν r κ = cond (eqb (τ r) r) ((log m pos parts (q̂ r) + κ * A) % p) 0

      pub c-fixed : (r : ℕ) → τ r ≡ r → c r ≡ nil
      unfolding c
      c-fixed r f = cond-eq (τ r) r _ _ f

      pub c-moved : (r : ℕ) → ¬ (τ r ≡ r) → c r ≡ neg (total 𝓔 (λ k. q̂ (iter τ (A * k) (leader orbits r))) (paces orbits A r))
      unfolding c
      c-moved r f = cond-ne (τ r) r _ _ f

      pub ν-fixed : (r κ : ℕ) → τ r ≡ r → ν r κ ≡ (log m pos parts (q̂ r) + κ * A) % p
      unfolding ν
      ν-fixed r κ f = cond-eq (τ r) r _ _ f

      pub ν-moved : (r κ : ℕ) → ¬ (τ r ≡ r) → ν r κ ≡ 0
      unfolding ν
      ν-moved r κ f = cond-ne (τ r) r _ _ f

      pub ν-below : (r κ : ℕ) → ν r κ < p
      ν-below r κ = by_cases (ℕ_discrete (τ r) r) (λ f. subst (λ s. s < p) (sym (ν-fixed r κ f)) (mod-lt _ (omega (arith, S.two))))
          (λ f. omega (arith, ν-moved r κ f, S.two))

      pub number_stays : (a : Ω) (κ : ℕ) → ν (iter τ A (rep a)) κ ≡ ν (rep a) κ
      number_stays a κ = by_cases (ℕ_discrete (τ (rep a)) (rep a)) (λ f. ap (λ r. ν r κ) (iter-fix τ (rep a) f A))
          (λ f. ν-moved (iter τ A (rep a)) κ (iter-moved orbits A (rep a) (rep_below a) f) ∙ sym (ν-moved (rep a) κ f))

      -- the scalars along steps of length A, once around, cancel
      cycle : (a : Ω) → total 𝓔 (λ k. q̂ (iter τ (A * k) (rep a))) p ≡ nil
      cycle a =
          total_ext 𝓔 (λ k. q̂ (iter τ (A * k) (rep a))) (λ k. Qj (power (maps 𝓔 Ω) (φ S F normed j ij jn) k a).0) p
          (λ k h. ap q̂ (sym (φ-power-maps S F normed j ij jn k a ∙ iter-iter τ A k (rep a))) ∙ q-first _)
          ∙ around S F normed j ij jn a

      pub log-q : (a : Ω) → τ (rep a) ≡ rep a → times 𝓔 (log m pos parts (q̂ (rep a))) (unit m pos parts) ≡ q̂ (rep a)
      log-q a f = log-times m pos parts (q̂ (rep a))
          (total_ext 𝓔 (λ k. q̂ (rep a)) (λ k. q̂ (iter τ (A * k) (rep a))) p (λ k h. ap q̂ (sym (iter-fix τ (rep a) f (A * k)))) ∙ cycle a)

      abbrev ε : Residue m
      ε = unit m pos parts

      closes-fixed : (a : Ω) (κ : ℕ) → τ (rep a) ≡ rep a → add (Qj a) (add (times 𝓔 A (times 𝓔 κ ε)) (c (iter τ A (rep a))))
          ≡ add (c (rep a)) (times 𝓔 (ν (rep a) κ) ε)
      closes-fixed a κ f =
          let w : A * κ ≡ κ * A = omega arith in
          ap (λ s. add (Qj a) (add (times 𝓔 A (times 𝓔 κ ε)) s)) (ap c (iter-fix τ (rep a) f A) ∙ c-fixed (rep a) f) ∙ ap (add (Qj a)) (idr 𝓔 _)
          ∙ ap₂ add (sym (q-first a) ∙ sym (log-q a f)) (sym (times-mul 𝓔 A κ ε) ∙ ap (λ s. times 𝓔 s ε) w)
          ∙ sym (times-add 𝓔 (log m pos parts (q̂ (rep a))) (κ * A) ε) ∙ sym (unit-mod m pos parts _)
          ∙ ap (λ s. times 𝓔 s ε) (sym (ν-fixed (rep a) κ f)) ∙ sym (ap (λ s. add s (times 𝓔 (ν (rep a) κ) ε)) (c-fixed (rep a) f) ∙ 𝓔.idl _)

      pub closes-moved : (a : Ω) → ¬ (τ (rep a) ≡ rep a) → add (q S F normed j ij jn a) (c (iter τ A (rep a))) ≡ c (rep a)
      closes-moved a mv =
          let r : ℕ = rep a in
          let e : ℕ = paces orbits A r in
          let g : ℕ → Residue m = λ k. q̂ (iter τ (A * k) (leader orbits r)) in
          let q-here : Qj a ≡ g e = sym (q-first a) ∙ ap q̂ (sym (paces-back orbits A (unit-shift a mv) r (rep_below a))) in
          let leader-cycle : total 𝓔 g p ≡ nil = subst (λ o. total 𝓔 (λ k. q̂ (iter τ (A * k) o)) p ≡ nil)
          (first_rep (leader orbits r) (leader-below orbits r (rep_below a))) (cycle (first (leader orbits r))) in
          -- one more than the last is the whole orbit, which cancels
          let after : total 𝓔 g ((e + 1) % p) ≡ total 𝓔 g (suc e) = by_cases (dec_lt (e + 1) p)
          (λ h. let w : (e + 1) % p ≡ suc e = mod-eq_of_lt h ∙ omega arith in ap (total 𝓔 g) w) (λ h.
          let b : e < p = paces-below orbits A (unit-shift a mv) r (rep_below a) in
          let w : p ≡ suc e = omega arith in
          let z : e + 1 ≡ p = omega arith in
          ap (total 𝓔 g) (ap (λ x. x % p) z ∙ mod_self p) ∙ total-zero 𝓔 g ∙ sym leader-cycle ∙ ap (total 𝓔 g) w) in
          ap (add (Qj a)) (c-moved (iter τ A r) (iter-moved orbits A r (rep_below a) mv)
          ∙ ap₂ (λ o s. neg (total 𝓔 (λ k. q̂ (iter τ (A * k) o)) s)) (leader-iter orbits A r (rep_below a))
          (paces-next orbits A (unit-shift a mv) r (rep_below a) mv))
          ∙ ap₂ (λ s t. add s (neg t)) q-here (after ∙ total-suc 𝓔 g e) ∙ neg_of 𝓔 _ _ (sym (𝓔.assoc _ _ _) ∙ ap₂ add (𝓔.comm _ _) refl ∙ 𝓔.negr _)
          ∙ sym (c-moved r mv)

      pub closes : (a : Ω) (κ : ℕ) → (¬ (τ (rep a) ≡ rep a) → κ ≡ 0)
          → add (q S F normed j ij jn a) (add (times 𝓔 A (times 𝓔 κ (unit m pos parts))) (c (iter τ A (rep a))))
          ≡ add (c (rep a)) (times 𝓔 (ν (rep a) κ) (unit m pos parts))
      closes a κ plain = by_cases (ℕ_discrete (τ (rep a)) (rep a)) (closes-fixed a κ) (λ f.
          ap (λ s. add (Qj a) (add s (c (iter τ A (rep a)))))
          (ap (λ k. times 𝓔 A (times 𝓔 k ε)) (plain f) ∙ ap (times 𝓔 A) (total-zero 𝓔 (λ k. ε)) ∙ times-nil 𝓔 A)
          ∙ ap (add (Qj a)) (𝓔.idl _) ∙ closes-moved a f
          ∙ sym (ap (add (c (rep a))) (ap (λ k. times 𝓔 k ε) (ν-moved (rep a) κ f) ∙ total-zero 𝓔 (λ k. ε)) ∙ idr 𝓔 _))
