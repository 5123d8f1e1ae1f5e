-- The matrix of generator i on the next level is its intertwiner times a scalar on each representation, for extensions
-- and inductions alike; and how the intertwiners of the generators above move past it.
--
--   Normed                                      scalars that undo the defect around each orbit
--   Y, Y-at, Y-past, Y-power, Y-maps           the new matrix and its p-th power, the image of u
--   raised, raised-hom, raised-low, raised-top, raised-maps      the representation of the extension
--   φ, φ-is, φ-past, φ-power, φ-maps           the image of the conjugate of generator i by generator j
--   q, q-eq, q-const                            X_j φ = q · Y X_j
--   around                                      the scalars q along φ, p times, cancel
--   swap, fixed-stays, fixed_back               how the permutations of the representations commute
use mathlib.Core.Path.{◌≡◌, refl, sym, ◌∙◌, ap, ap₂, subst, fun_ext}
use Prim.Native.Nat.{ℕ, zero, suc, ◌-◌, ◌<◌}
use native.Mathlib.Omega.{arith}
use Rattle.definitions.specs.Lists.{iter}
use Rattle.definitions.specs.Presentation.{Mul, power}
use Rattle.group.specs.Models.{Hom}
use Rattle.group.proofs.Values.{power_zero, power-suc, power-one, power-hom}
use Rattle.numbers.proofs.Lists.{iter-zero, iter-suc, iter-fix}
use Rattle.monomial.specs.Exponents.{Exponents, total}
use Rattle.monomial.specs.Maps.{Map, compose, maps, diagonal}
use Rattle.monomial.specs.Families.{Family, Alike}
use Rattle.monomial.proofs.Exponents.{idr, lcomm, cancel, total-zero, total-suc, total_ext}
use Rattle.monomial.proofs.Maps.{pair, at-column, at_mul, maps-laws, inverse-mul, power-diagonal}
use Rattle.monomial.proofs.Schur.{intertwiner-inverse, ratio, ratio-eq, ratio-const, rep-power, scalar-commutes}
use Rattle.clifford.specs.Extension.{Extension}
use Rattle.clifford.proofs.Defect.{defect, defect-eq, X-inverse, X-past, X-maps, target-period}

module _ {G G⁺ : Type 0} {𝓖 : Mul G} {𝓖⁺ : Mul G⁺} {conj : ℕ → G → G} {conj⁺ : ℕ → G⁺ → G⁺} {i n : ℕ} (S : Extension 𝓖 𝓖⁺ conj conj⁺ i n)
    {E : Type 0} {𝓔 : Exponents E} {Ω : Type 0} (F : Family 𝓔 Ω 𝓖 conj i n) where
  infixl 70 ◌*◌ ◌⊛◌
  open maps 𝓔 Ω use {mul as ◌*◌, one}
  open 𝓖⁺ use {mul as ◌⊛◌}
  open maps-laws 𝓔 {Ω = Ω} use {assoc, idl, idr as idrM}
  open 𝓔 use {add, nil, neg}
  open F use {d, X, rep, target}
  open S use {p, u, low, top, exponent, rest, shift, tail}

  abbrev pow : Map 𝓔 Ω → ℕ → Map 𝓔 Ω
  pow = power (maps 𝓔 Ω)

  abbrev f : G → G
  f = conj i

  abbrev τ : ℕ → ℕ
  τ = target i

  pub record Normed : Type 0 where
    pub σ : ℕ → E
    pub norm : (a : Ω) → add (total 𝓔 (λ k. σ (iter τ k (rep a))) p) (defect S F a) ≡ nil

  module _ (𝓢 : Normed) where
    open 𝓢 use {σ}

    unfoldable pub Y : Map 𝓔 Ω
    Y = X i * diagonal 𝓔 Ω (λ a. σ (rep a))

    pub Y-at : (a : Ω) → Y a ≡ ((X i a).0, add (X i a).1 (σ (rep a)))
    unfolding Y maps compose diagonal
    Y-at a = refl

    pub Y-past : (x : G) → Y * d (f x) ≡ d x * Y
    unfolding Y
    Y-past x =
        assoc _ _ _ ∙ ap (λ s. X i * s) (scalar-commutes F σ (f x)) ∙ sym (assoc _ _ _)
        ∙ ap (λ s. s * diagonal 𝓔 Ω (λ a. σ (rep a))) (X-past S F x) ∙ assoc _ _ _

    pub Y-power : pow Y p ≡ d u
    unfolding Y
    Y-power = fun_ext (λ a. power-diagonal 𝓔 (X i) (λ a. σ (rep a)) p a
        ∙ ap (λ s. (s.0, add (total 𝓔 (λ l. σ (rep (pow (X i) l a).0)) p) s.1)) (defect-eq S F a)
        ∙ pair 𝓔 refl (sym (𝓔.assoc _ _ _)
        ∙ ap (λ s. add s (d u a).1) (ap (λ s. add s (defect S F a)) (total_ext 𝓔 _ _ p (λ k h. ap σ (rep-power F τ (X i) (X-maps S F) k a)))
        ∙ 𝓢.norm a) ∙ 𝓔.idl _))

    pub Y-maps : (a : Ω) → rep (Y a).0 ≡ τ (rep a)
    Y-maps a = ap (λ s. rep s.0) (Y-at a) ∙ X-maps S F a

    -- ---- The representation of the extension

    unfoldable pub raised : G⁺ → Map 𝓔 Ω
    raised x = pow Y (exponent x) * d (rest x)

    pub raised-hom : Hom 𝓖⁺ (maps 𝓔 Ω) raised
    unfolding raised
    raised-hom = S.extend (maps-laws 𝓔) d F.hom Y Y-past Y-power

    pub raised-low : (x : G) → raised (low x) ≡ d x
    unfolding raised
    raised-low x = ap₂ (λ k y. pow Y k * d y) (S.exponent_low x) (S.rest_low x) ∙ ap (λ s. s * d x) (power_zero (maps 𝓔 Ω) Y) ∙ idl _

    pub raised-top : raised top ≡ Y
    unfolding raised
    raised-top = ap₂ (λ k y. pow Y k * d y) S.exponent_top S.rest_top ∙ ap₂ (◌*◌) (power-one (maps-laws 𝓔) Y) F.hom.on_one ∙ idrM _

    pub raised-maps : (x : G⁺) (a : Ω) → rep (raised x a).0 ≡ iter τ (exponent x) (rep a)
    unfolding raised
    raised-maps x a = ap (λ s. rep s.0) (at_mul 𝓔 (pow Y (exponent x)) (d (rest x)) a) ∙ rep-power F τ Y Y-maps (exponent x) _
        ∙ ap (iter τ (exponent x)) (F.inside (rest x) a)

    -- ---- A generator above

    module _ (j : ℕ) (ij : i < j) (jn : j < n) where
      unfoldable pub φ : Map 𝓔 Ω
      φ = raised (conj⁺ j top)

      dlow : (x : G) → raised (conj⁺ j (low x)) ≡ d (conj j x)
      dlow x = ap raised (S.conj_low j ij jn x) ∙ raised-low (conj j x)

      pub φ-past : (x : G) → φ * d (conj j (f x)) ≡ d (conj j x) * φ
      unfolding φ
      φ-past x =
          ap (λ s. φ * s) (sym (dlow (f x))) ∙ sym (raised-hom.on_mul _ _)
          ∙ ap raised (sym ((S.conj⁺-hom j ij jn).on_mul _ _) ∙ ap (conj⁺ j) (sym (S.low_top x)) ∙ (S.conj⁺-hom j ij jn).on_mul _ _)
          ∙ raised-hom.on_mul _ _ ∙ ap (λ s. s * φ) (dlow x)

      pub φ-power : pow φ p ≡ d (conj j u)
      unfolding φ
      φ-power =
          sym (power-hom raised-hom (conj⁺ j top) p)
          ∙ ap raised (sym (power-hom (S.conj⁺-hom j ij jn) top p) ∙ ap (conj⁺ j) S.top_power) ∙ dlow u

      -- the conjugate is a power of generator i times an element of the group
      pub φ-is : φ ≡ pow Y (shift j) * d (tail j)
      unfolding φ
      φ-is =
          ap raised (S.conj_top j ij jn) ∙ raised-hom.on_mul _ _
          ∙ ap₂ (◌*◌) (power-hom raised-hom top (shift j) ∙ ap (λ s. pow s (shift j)) raised-top) (raised-low (tail j))

      pub φ-maps : (a : Ω) → rep (φ a).0 ≡ iter τ (shift j) (rep a)
      φ-maps a =
          ap (λ s. rep s.0) (at-column 𝓔 φ-is a ∙ at_mul 𝓔 (pow Y (shift j)) (d (tail j)) a)
          ∙ rep-power F τ Y Y-maps (shift j) _ ∙ ap (iter τ (shift j)) (F.inside (tail j) a)

      abbrev Xj-past : (x : G) → X j * d (conj j x) ≡ d x * X j
      Xj-past = F.past j (omega arith) jn

      abbrev Xj-maps : (a : Ω) → rep (X j a).0 ≡ target j (rep a)
      Xj-maps = F.maps_to j (omega arith) jn

      alike : Alike 𝓔 Ω d (λ x. conj j (f x)) (X j * φ) (Y * X j)
      alike = record {
        first = λ x. assoc _ _ _ ∙ ap (λ s. X j * s) (φ-past x) ∙ sym (assoc _ _ _) ∙ ap (λ s. s * φ) (Xj-past x) ∙ assoc _ _ _;
        second = λ x. assoc _ _ _ ∙ ap (λ s. Y * s) (Xj-past (f x)) ∙ sym (assoc _ _ _) ∙ ap (λ s. s * X j) (Y-past x) ∙ assoc _ _ _;
        inverse = inverse-mul (maps-laws 𝓔) Y (X j)
            (intertwiner-inverse F Y f Y-past (S.period i) (S.period_pos i) (S.conj_period i (omega arith) S.in_range))
            (X-inverse S F j (omega arith) jn);
      }

      pub q : Ω → E
      q = ratio F alike

      pub q-eq : (a : Ω) → (X j * φ) a ≡ (((Y * X j) a).0, add (q a) ((Y * X j) a).1)
      unfolding q
      q-eq = ratio-eq F alike

      both-map : (a : Ω) → rep ((Y * X j) a).0 ≡ τ (target j (rep a))
      both-map a = ap (λ s. rep s.0) (at_mul 𝓔 Y (X j) a) ∙ Y-maps _ ∙ ap τ (Xj-maps a)

      pub q-const : (a b : Ω) → rep a ≡ rep b → q a ≡ q b
      unfolding q
      q-const a b h = ratio-const F alike a b (both-map a ∙ ap (λ r. τ (target j r)) h ∙ sym (both-map b))

      -- ---- Once around

      along : (k : ℕ) (a : Ω) → (X j * pow φ k) a ≡ (((pow Y k * X j) a).0, add (total 𝓔 (λ l. q (pow φ l a).0) k) ((pow Y k * X j) a).1)
      along zero a =
          at-column 𝓔 (ap (λ f. X j * f) (power_zero (maps 𝓔 Ω) φ) ∙ idrM (X j)) a ∙ pair 𝓔 refl (sym (ap₂ add (total-zero 𝓔 _) refl ∙ 𝓔.idl _))
          ∙ ap (λ f. ((f a).0, add (total 𝓔 (λ l. q (pow φ l a).0) 0) (f a).1)) (sym (ap (λ f. f * X j) (power_zero (maps 𝓔 Ω) Y) ∙ idl (X j)))
      along (suc k) a =
          let b : Ω = (pow φ k a).0 in
          let y : E = (pow φ k a).1 in
          let swap₄ : (x y z v : E) → add x (add y (add z v)) ≡ add (add x z) (add y v) = λ x y z v. simp (𝓔.assoc, 𝓔.comm, lcomm 𝓔) in
          at-column 𝓔 (ap (λ f. X j * f) (power-suc (maps 𝓔 Ω) φ k) ∙ sym (assoc _ _ _)) a ∙ at_mul 𝓔 (X j * φ) (pow φ k) a
          ∙ ap (λ s. (s.0, add s.1 y)) (q-eq b ∙ ap (λ s. (s.0, add (q b) s.1)) (at_mul 𝓔 Y (X j) b))
          ∙ pair 𝓔 refl (𝓔.assoc _ _ _ ∙ ap (add (q b)) (𝓔.assoc _ _ _))
          ∙ ap (λ s. ((Y s.0).0, add (q b) (add (Y s.0).1 s.1))) (sym (at_mul 𝓔 (X j) (pow φ k) a) ∙ along k a)
          ∙ pair 𝓔 refl (swap₄ _ _ _ _ ∙ ap₂ add (sym (total-suc 𝓔 _ k)) refl)
          ∙ ap (λ s. (s.0, add (total 𝓔 (λ l. q (pow φ l a).0) (suc k)) s.1))
          (sym (at_mul 𝓔 Y (pow Y k * X j) a) ∙ at-column 𝓔 (sym (assoc _ _ _) ∙ ap (λ f. f * X j) (sym (power-suc (maps 𝓔 Ω) Y k))) a)

      pub around : (a : Ω) → total 𝓔 (λ l. q (pow φ l a).0) p ≡ nil
      around a =
          let whole : X j * pow φ p ≡ pow Y p * X j = ap (λ f. X j * f) φ-power ∙ Xj-past u ∙ ap (λ f. f * X j) (sym Y-power) in
          cancel 𝓔 ((pow Y p * X j) a).1 _ _ (𝓔.comm _ _ ∙ ap (λ s. s.1) (sym (along p a) ∙ at-column 𝓔 whole a) ∙ sym (idr 𝓔 _))

      pub φ-power-maps : (k : ℕ) (a : Ω) → rep (pow φ k a).0 ≡ iter (iter τ (shift j)) k (rep a)
      φ-power-maps k a = rep-power F (iter τ (shift j)) φ φ-maps k a

      -- ---- The permutations of the representations

      pub swap : (a : Ω) → target j (iter τ (shift j) (rep a)) ≡ τ (target j (rep a))
      swap a = ap (target j) (sym (φ-maps a)) ∙ sym (Xj-maps _) ∙ ap (λ s. rep s.0) (sym (at_mul 𝓔 (X j) φ a) ∙ q-eq a) ∙ both-map a

      pub fixed-stays : (a : Ω) → τ (rep a) ≡ rep a → τ (target j (rep a)) ≡ target j (rep a)
      fixed-stays a h = sym (swap a) ∙ ap (target j) (iter-fix τ (rep a) h (shift j))

      fixed-iter : (k : ℕ) (a : Ω) → τ (rep a) ≡ rep a → τ (iter (target j) k (rep a)) ≡ iter (target j) k (rep a)
      fixed-iter zero a h = subst (λ s. τ s ≡ s) (sym (iter-zero (target j) (rep a))) h
      fixed-iter (suc k) a h =
          subst (λ s. τ s ≡ s) (sym (iter-suc (target j) k (rep a) ∙ ap (iter (target j) k) (sym (Xj-maps a))))
          (fixed-iter k (X j a).0 (subst (λ s. τ s ≡ s) (sym (Xj-maps a)) (fixed-stays a h)))

      pub fixed_back : (a : Ω) → τ (target j (rep a)) ≡ target j (rep a) → τ (rep a) ≡ rep a
      fixed_back a h =
          let N : ℕ = S.period j in
          let e : suc (N - 1) ≡ N = omega (arith, S.period_pos j) in
          let home : iter (target j) (N - 1) (rep (X j a).0) ≡ rep a
          = ap (iter (target j) (N - 1)) (Xj-maps a) ∙ sym (iter-suc (target j) (N - 1) (rep a)) ∙ ap (λ k. iter (target j) k (rep a)) e
          ∙ target-period S F j (omega arith) jn a in
          subst (λ s. τ s ≡ s) home (fixed-iter (N - 1) (X j a).0 (subst (λ s. τ s ≡ s) (sym (Xj-maps a)) h))
