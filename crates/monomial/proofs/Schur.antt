-- Schur's lemma for a family of separated representations, and what follows from it.
--
--   commuting-fixes, commuting-scalar      what commutes with a family fixes every basis index, with an exponent that is
--                                          constant on each representation
--   commuting-inverse, intertwiner-inverse it has an inverse, and so has an intertwiner of finite order
--   ratio, ratio-eq, ratio-const           two maps that move past the family alike differ by such a scalar
--   rep-power, power-commutes              how powers of a map move the representations; they move past the family as the map does
--   scalar-commutes                        a scalar on each representation commutes with the family
use mathlib.Core.Path.{◌≡◌, refl, sym, ◌∙◌, ap, subst, fun_ext}
use mathlib.Core.Logic.{by_cases}
use Prim.Native.Nat.{ℕ, zero, suc, ◌<◌}
use Rattle.definitions.specs.Lists.{iter}
use Rattle.definitions.specs.Presentation.{Mul, power}
use Rattle.group.proofs.Values.{power_zero, power-suc, iter-past}
use Rattle.numbers.proofs.Lists.{iter-zero}
use Rattle.numbers.proofs.Iterates.{iter-out}
use Rattle.monomial.specs.Exponents.{Exponents}
use Rattle.monomial.specs.Maps.{Map, compose, maps, diagonal, Inverse}
use Rattle.monomial.specs.Families.{Family, Alike}
use Rattle.monomial.proofs.Exponents.{cancel}
use Rattle.monomial.proofs.Maps.{pair, at-column, at_mul, at_one, maps-laws, inverse-diagonal, inverse-root}

module _ {G : Type 0} {𝓖 : Mul G} {conj : ℕ → G → G} {i n : ℕ} {E : Type 0} {𝓔 : Exponents E} {Ω : Type 0} (F : Family 𝓔 Ω 𝓖 conj i n) where
  infixl 70 ◌*◌
  open maps 𝓔 Ω use {mul as ◌*◌}
  open maps-laws 𝓔 {Ω = Ω} use {assoc, idl, idr}
  open 𝓔 use {add}
  open F use {d, rep}

  -- ---- What commutes with the family

  module _ (Z : Map 𝓔 Ω) (c : (x : G) → Z * d x ≡ d x * Z) where
    line : (x : G) (a : Ω) → ◌≡◌ {A = Ω × E} ((Z (d x a).0).0, add (Z (d x a).0).1 (d x a).1) ((d x (Z a).0).0, add (d x (Z a).0).1 (Z a).1)
    line x a = sym (at_mul 𝓔 Z (d x) a) ∙ at-column 𝓔 (c x) a ∙ at_mul 𝓔 (d x) Z a

    pub commuting-fixes : (a : Ω) → (Z a).0 ≡ a
    commuting-fixes a = by_cases (F.decide a (Z a).0) sym (λ h.
        let q = F.separated a _ h in
        absurd (q.differ (cancel 𝓔 (Z a).1 _ _
        (ap (λ s. s.1) (sym (ap (λ s. ((Z s.0).0, add (Z s.0).1 s.1)) q.fixes) ∙ line q.by a
        ∙ ap (λ s. (s.0, add s.1 (Z a).1)) q.fixes') ∙ 𝓔.comm _ _))))

    pub commuting-scalar : (a b : Ω) → rep a ≡ rep b → (Z a).1 ≡ (Z b).1
    commuting-scalar a b q =
        let (w, h) = F.reached a b q in
        sym (cancel 𝓔 (d w a).1 _ _ (𝓔.comm _ _ ∙ ap (λ s. add (Z s).1 (d w a).1) (sym h) ∙ ap (λ s. s.1) (line w a) ∙ ap (λ s. add (d w s).1 (Z a).1) (commuting-fixes a)))

    pub commuting-inverse : Inverse (maps 𝓔 Ω) Z
    unfolding diagonal
    commuting-inverse = subst (Inverse (maps 𝓔 Ω)) (fun_ext (λ a. pair 𝓔 (sym (commuting-fixes a)) refl)) (inverse-diagonal 𝓔 (λ a. (Z a).1))

  -- ---- Intertwiners

  -- what moves past the family by a map of finite order commutes with it in that power
  pub power-commutes : (Z : Map 𝓔 Ω) (φ : G → G) → ((x : G) → Z * d (φ x) ≡ d x * Z) → (N : ℕ) → ((x : G) → iter φ N x ≡ x) → (x : G)
      → power (maps 𝓔 Ω) Z N * d x ≡ d x * power (maps 𝓔 Ω) Z N
  power-commutes Z φ c N q x = ap (λ s. power (maps 𝓔 Ω) Z N * d s) (sym (q x)) ∙ iter-past (maps-laws 𝓔) d Z φ c N x

  pub intertwiner-inverse : (Z : Map 𝓔 Ω) (φ : G → G) → ((x : G) → Z * d (φ x) ≡ d x * Z) → (N : ℕ) → 0 < N → ((x : G) → iter φ N x ≡ x) → Inverse (maps 𝓔 Ω) Z
  intertwiner-inverse Z φ c N h q = inverse-root (maps-laws 𝓔) Z N h (commuting-inverse (power (maps 𝓔 Ω) Z N) (power-commutes Z φ c N q))

  module _ {φ : G → G} {Z Y : Map 𝓔 Ω} (A : Alike 𝓔 Ω d φ Z Y) where
    quotient : Map 𝓔 Ω
    quotient = Z * A.inverse.to

    quotient-commutes : (x : G) → quotient * d x ≡ d x * quotient
    unfolding quotient
    quotient-commutes x =
        let W : Map 𝓔 Ω = A.inverse.to in
        assoc _ _ _
        ∙ ap (λ s. Z * s) (sym (idr _) ∙ ap (λ s. W * d x * s) (sym A.inverse.right) ∙ sym (assoc _ _ _)
        ∙ ap (λ s. s * W) (assoc _ _ _ ∙ ap (λ s. W * s) (sym (A.second x)) ∙ sym (assoc _ _ _) ∙ ap (λ s. s * d (φ x)) A.inverse.left ∙ idl _))
        ∙ sym (assoc _ _ _) ∙ ap (λ s. s * W) (A.first x) ∙ assoc _ _ _

    -- the scalar, at a basis index of the source
    pub ratio : Ω → E
    ratio a = (quotient (Y a).0).1

    pub ratio-eq : (a : Ω) → Z a ≡ ((Y a).0, add (ratio a) (Y a).1)
    unfolding quotient ratio
    ratio-eq a = at-column 𝓔 (sym (assoc Z A.inverse.to Y ∙ ap (λ s. Z * s) A.inverse.left ∙ idr Z)) a
        ∙ at_mul 𝓔 quotient Y a ∙ pair 𝓔 (commuting-fixes quotient quotient-commutes (Y a).0) refl

    pub ratio-const : (a b : Ω) → rep (Y a).0 ≡ rep (Y b).0 → ratio a ≡ ratio b
    unfolding ratio
    ratio-const a b q = commuting-scalar quotient quotient-commutes _ _ q

  -- ---- Representations

  pub rep-power : (τ : ℕ → ℕ) (Z : Map 𝓔 Ω) → ((a : Ω) → rep (Z a).0 ≡ τ (rep a)) → (k : ℕ) (a : Ω) → rep (power (maps 𝓔 Ω) Z k a).0 ≡ iter τ k (rep a)
  rep-power τ Z q zero a = ap (λ s. rep s.0) (at-column 𝓔 (power_zero (maps 𝓔 Ω) Z) a ∙ at_one 𝓔 a) ∙ sym (iter-zero τ (rep a))
  rep-power τ Z q (suc k) a =
      ap (λ s. rep s.0) (at-column 𝓔 (power-suc (maps 𝓔 Ω) Z k) a ∙ at_mul 𝓔 Z (power (maps 𝓔 Ω) Z k) a) ∙ q _ ∙ ap τ (rep-power τ Z q k a) ∙ sym (iter-out τ k (rep a))

  pub scalar-commutes : (s : ℕ → E) (x : G) → diagonal 𝓔 Ω (λ a. s (rep a)) * d x ≡ d x * diagonal 𝓔 Ω (λ a. s (rep a))
  unfolding maps compose diagonal
  scalar-commutes s x = fun_ext (λ a. pair 𝓔 refl (ap (λ r. add (s r) (d x a).1) (F.inside x a) ∙ 𝓔.comm _ _))
