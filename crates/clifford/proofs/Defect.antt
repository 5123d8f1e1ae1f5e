-- The p-th power of the intertwiner X of generator i is the image of the power word u, times a scalar on each
-- representation: the defect.
--
--   image-inverse, X-inverse            images of group elements and intertwiners have inverses
--   target-period                       an intertwiner moves the representations by a permutation of finite order
--   defect, defect-eq, defect-const     X^p = defect · D(u)
--   target-home                         X^p maps every representation home
--   defect-step, defect-power           the defect is constant along an orbit of representations
--   last_block                          X at the last of an orbit, less the defect, is D(u) less the way there
--   root                                where X fixes a representation, p times something is the defect, up to an
--                                       exponent that the order of the group kills
use mathlib.Core.Path.{◌≡◌, refl, sym, ◌∙◌, ap, ap₂}
use Prim.Native.Nat.{ℕ, zero, suc, ◌≤◌, ◌<◌}
use native.Mathlib.Omega.{arith}
use Rattle.definitions.specs.Lists.{iter}
use Rattle.definitions.specs.Presentation.{Mul, power}
use Rattle.group.specs.Models.{Hom}
use Rattle.group.proofs.Values.{power_zero, power-suc, power-past, power-hom, iter-past}
use Rattle.monomial.specs.Exponents.{Exponents, times}
use Rattle.monomial.specs.Maps.{Map, maps, Inverse}
use Rattle.monomial.specs.Families.{Family, Alike}
use Rattle.monomial.proofs.Exponents.{idr, lcomm, cancel}
use Rattle.monomial.proofs.Maps.{pair, at-column, at_mul, at_one, mul_at, maps-laws, power-fixes}
use Rattle.monomial.proofs.Schur.{commuting-fixes, power-commutes, intertwiner-inverse, ratio, ratio-eq, ratio-const, rep-power}
use Rattle.clifford.specs.Extension.{Extension}

abbrev pub image-inverse : {G M : Type 0} {𝓖 : Mul G} {𝓜 : Mul M} {d : G → M} → Hom 𝓖 𝓜 d → (x y : G) → 𝓖.mul x y ≡ 𝓖.one → 𝓖.mul y x ≡ 𝓖.one
    → Inverse 𝓜 (d x)
image-inverse {d = d} H x y r l = record {
  to = d y;
  right = sym (H.on_mul _ _) ∙ ap d r ∙ H.on_one;
  left = sym (H.on_mul _ _) ∙ ap d l ∙ H.on_one;
}

module _ {G G⁺ : Type 0} {𝓖 : Mul G} {𝓖⁺ : Mul G⁺} {conj : ℕ → G → G} {conj⁺ : ℕ → G⁺ → G⁺} {i n : ℕ} (S : Extension 𝓖 𝓖⁺ conj conj⁺ i n)
    {E : Type 0} {𝓔 : Exponents E} {Ω : Type 0} (F : Family 𝓔 Ω 𝓖 conj i n) where
  infixl 70 ◌*◌ ◌⋆◌
  open maps 𝓔 Ω use {mul as ◌*◌, one}
  open 𝓖 use {mul as ◌⋆◌}
  open maps-laws 𝓔 {Ω = Ω} use {assoc, idl, idr as idrM}
  open 𝓔 use {add, nil, neg}
  open F use {d, X, rep, target}
  open S use {p, u}

  abbrev pow : Map 𝓔 Ω → ℕ → Map 𝓔 Ω
  pow = power (maps 𝓔 Ω)

  abbrev pub f : G → G
  f = conj i

  abbrev pub τ : ℕ → ℕ
  τ = target i

  pub X-inverse : (j : ℕ) → i ≤ j → j < n → Inverse (maps 𝓔 Ω) (X j)
  X-inverse j a b = intertwiner-inverse F (X j) (conj j) (F.past j a b) (S.period j) (S.period_pos j) (S.conj_period j a b)

  pub target-period : (j : ℕ) → i ≤ j → j < n → (a : Ω) → iter (target j) (S.period j) (rep a) ≡ rep a
  target-period j h h' a =
      sym (rep-power F (target j) (X j) (F.maps_to j h h') (S.period j) a)
      ∙ ap rep (commuting-fixes F (pow (X j) (S.period j)) (power-commutes F (X j) (conj j) (F.past j h h') (S.period j) (S.conj_period j h h')) a)

  pub X-past : (x : G) → X i * d (f x) ≡ d x * X i
  X-past = F.past i (omega arith) S.in_range

  pub X-maps : (a : Ω) → rep (X i a).0 ≡ τ (rep a)
  X-maps = F.maps_to i (omega arith) S.in_range

  -- ---- The defect

  alike : Alike 𝓔 Ω d (iter f p) (pow (X i) p) (d u)
  alike = record {
    first = iter-past (maps-laws 𝓔) d (X i) f X-past p;
    second = λ x. sym (F.hom.on_mul _ _) ∙ ap d (S.inner x) ∙ F.hom.on_mul _ _;
    inverse = image-inverse F.hom u (S.inv u) (S.inv_right u) (S.inv_left u);
  }

  pub defect : Ω → E
  defect = ratio F alike

  pub defect-eq : (a : Ω) → pow (X i) p a ≡ ((d u a).0, add (defect a) (d u a).1)
  unfolding defect
  defect-eq = ratio-eq F alike

  pub defect-const : (a b : Ω) → rep a ≡ rep b → defect a ≡ defect b
  unfolding defect
  defect-const a b q = ratio-const F alike a b (F.inside u a ∙ q ∙ sym (F.inside u b))

  pub target-home : (a : Ω) → iter τ p (rep a) ≡ rep a
  target-home a = sym (rep-power F τ (X i) X-maps p a) ∙ ap (λ s. rep s.0) (defect-eq a) ∙ F.inside u a

  pub defect-step : (a : Ω) → defect (X i a).0 ≡ defect a
  defect-step a =
      let one_way = at_mul 𝓔 (pow (X i) p) (X i) a ∙ ap (λ s. (s.0, add s.1 (X i a).1)) (defect-eq (X i a).0) in
      let other_way = mul_at 𝓔 (X i) (pow (X i) p) a _ _ (defect-eq a) in
      let u-X = sym (at_mul 𝓔 (X i) (d u) a) ∙ at-column 𝓔 (ap (λ s. X i * d s) (sym S.conj_u) ∙ X-past u) a ∙ at_mul 𝓔 (d u) (X i) a in
      cancel 𝓔 (add (d u (X i a).0).1 (X i a).1) _ _
      (𝓔.comm _ _ ∙ sym (𝓔.assoc _ _ _)
      ∙ ap (λ s. s.1) (sym one_way ∙ at-column 𝓔 (sym (power-past (maps-laws 𝓔) (X i) (X i) (X i) refl p)) a ∙ other_way)
      ∙ lcomm 𝓔 _ _ _ ∙ ap (add (defect a)) (ap (λ s. s.1) u-X) ∙ 𝓔.comm _ _)

  pub defect-power : (k : ℕ) (a : Ω) → defect (pow (X i) k a).0 ≡ defect a
  defect-power zero a = ap (λ z. defect z.0) (at-column 𝓔 (power_zero (maps 𝓔 Ω) (X i)) a ∙ at_one 𝓔 a)
  defect-power (suc k) a = ap (λ z. defect z.0) (at-column 𝓔 (power-suc (maps 𝓔 Ω) (X i) k) a ∙ at_mul 𝓔 (X i) (pow (X i) k) a) ∙ defect-step _
      ∙ defect-power k a

  pub last_block : (k : ℕ) → suc k ≡ p → (a : Ω)
      → ((X i (pow (X i) k a).0).0 ≡ (d u a).0)
      × (add (X i (pow (X i) k a).0).1 (neg (defect (pow (X i) k a).0)) ≡ add (d u a).1 (neg (pow (X i) k a).1))
  last_block k e a =
      let line = sym (at_mul 𝓔 (X i) (pow (X i) k) a) ∙ at-column 𝓔 (sym (power-suc (maps 𝓔 Ω) (X i) k) ∙ ap (pow (X i)) e) a ∙ defect-eq a in
      (ap (λ z. z.0) line, ap₂ (λ x s. add x (neg s)) refl (defect-power k a) ∙ across _ _ _ _ (ap (λ z. z.1) line))
    where
      turn : (x b t m : E) → add (add b t) (add x m) ≡ add (add x b) (add t m)
      turn x b t m = simp (𝓔.assoc, 𝓔.comm, lcomm 𝓔)

      across : (x b t v : E) → add x b ≡ add t v → add x (neg t) ≡ add v (neg b)
      across x b t v q =
          cancel 𝓔 (add b t) _ _
          (turn x b t (neg t) ∙ ap₂ add q (𝓔.negr t) ∙ idr 𝓔 _ ∙ 𝓔.comm t v
          ∙ sym (turn v t b (neg b) ∙ ap (add (add v t)) (𝓔.negr b) ∙ idr 𝓔 _) ∙ ap (λ s. add s (add v (neg b))) (𝓔.comm t b))

  -- ---- Roots

  -- (X D(h))^k = X^k D(twisted h k)
  unfoldable twisted : G → ℕ → G
  twisted h zero = 𝓖.one
  twisted h (suc k) = iter f k h ⋆ twisted h k

  twisted-zero : (h : G) → twisted h zero ≡ 𝓖.one
  unfolding twisted
  twisted-zero h = refl

  twisted-suc : (h : G) (k : ℕ) → twisted h (suc k) ≡ iter f k h ⋆ twisted h k
  unfolding twisted
  twisted-suc h k = refl

  twisted-power : (h : G) (k : ℕ) → pow (X i * d h) k ≡ pow (X i) k * d (twisted h k)
  twisted-power h zero = power_zero (maps 𝓔 Ω) _ ∙ sym (ap₂ (◌*◌) (power_zero (maps 𝓔 Ω) (X i)) (ap d (twisted-zero h) ∙ F.hom.on_one) ∙ idl _)
  twisted-power h (suc k) =
      power-suc (maps 𝓔 Ω) _ k ∙ ap (λ s. X i * d h * s) (twisted-power h k)
      ∙ simp (assoc, power-suc, twisted-suc, F.hom.on_mul)
      (ap (λ s. X i * s) (sym (assoc _ _ _) ∙ ap (λ s. s * d (twisted h k)) (sym (iter-past (maps-laws 𝓔) d (X i) f X-past k h)) ∙ assoc _ _ _))

  -- (X D(h))^p = defect · D(u twisted)
  twisted-whole : (h : G) (a : Ω) → pow (X i * d h) p a ≡ ((d (u ⋆ twisted h p) a).0, add (defect a) (d (u ⋆ twisted h p) a).1)
  twisted-whole h a =
      at-column 𝓔 (twisted-power h p) a ∙ at_mul 𝓔 (pow (X i) p) (d (twisted h p)) a
      ∙ ap (λ s. (s.0, add s.1 (d (twisted h p) a).1)) (defect-eq (d (twisted h p) a).0)
      ∙ pair 𝓔 refl (𝓔.assoc _ _ _ ∙ ap₂ add (defect-const _ a (F.inside (twisted h p) a)) refl)
      ∙ ap (λ s. (s.0, add (defect a) s.1)) (sym (at_mul 𝓔 (d u) (d (twisted h p)) a) ∙ at-column 𝓔 (sym (F.hom.on_mul _ _)) a)

  pub root : (a : Ω) → τ (rep a) ≡ rep a → (x : E) × (z : E) × (add (defect a) x ≡ times 𝓔 p z) × (times 𝓔 S.order x ≡ nil)
  root a fx =
      let (w, e) = F.reached (X i a).0 a (X-maps a ∙ fx) in
      let h : G = f w in
      let z : E = add (d w (X i a).0).1 (X i a).1 in
      let fixes : (X i * d h) a ≡ (a, z) = at-column 𝓔 (X-past w) a ∙ at_mul 𝓔 (d w) (X i) a ∙ pair 𝓔 e refl in
      let y : G = u ⋆ twisted h p in
      let line : ◌≡◌ {A = Ω × E} ((d y a).0, add (defect a) (d y a).1) (a, times 𝓔 p z) = sym (twisted-whole h a) ∙ power-fixes 𝓔 (X i * d h) a z fixes p in
      let stays : d y a ≡ (a, (d y a).1) = pair 𝓔 (ap (λ s. s.0) line) refl in (
        (d y a).1,
        z,
        ap (λ s. s.1) line,
        ap (λ s. s.1) (sym (power-fixes 𝓔 (d y) a _ stays S.order)
            ∙ at-column 𝓔 (sym (power-hom F.hom y S.order) ∙ ap d (S.order_one y) ∙ F.hom.on_one) a ∙ at_one 𝓔 a),
      )
