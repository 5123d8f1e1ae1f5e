-- Laws of monomial maps, of inverses, and of powers of a map at one basis index.
--
--   maps-laws                        the product is associative, the identity is one
--   at_mul, at_one                   a product and the identity at one basis index
--   pair, at-column                  equal parts make equal entries; equal maps have equal columns
--   inverse-root, inverse-mul, inverse-power, inverse-diagonal, inverse-injective      inverses
--   power-fixes                      the powers of a map that fixes a basis index
--   power-diagonal                   the powers of a map times a diagonal
use mathlib.Core.Path.{◌≡◌, refl, sym, ◌∙◌, ap, ap₂, subst, fun_ext}
use Prim.Native.Nat.{ℕ, zero, suc, ◌-◌, ◌<◌}
use native.Mathlib.Omega.{arith}
use Rattle.definitions.specs.Presentation.{Mul, power}
use Rattle.group.specs.Models.{Laws}
use Rattle.group.proofs.Values.{power_zero, power-suc, power-past}
use Rattle.monomial.specs.Exponents.{Exponents, total, times}
use Rattle.monomial.specs.Maps.{Map, compose, maps, diagonal, Inverse}
use Rattle.monomial.proofs.Exponents.{idr, negl, regroup, total-zero, total-suc}

-- ---- Inverses in a monoid

module _ {M : Type 0} {𝓜 : Mul M} (𝓛 : Laws 𝓜) where
  infixl 70 ◌*◌
  open 𝓜 use {mul as ◌*◌, one}
  open 𝓛 use {assoc, idl, idr as idrM}

  -- a root of what has an inverse has one
  pub inverse-root : (z : M) (N : ℕ) → 0 < N → Inverse 𝓜 (power 𝓜 z N) → Inverse 𝓜 z
  inverse-root z N h S =
      let q : suc (N - 1) ≡ N = omega arith in
      let w : M = power 𝓜 z (N - 1) * S.to in
      let w' : M = S.to * power 𝓜 z (N - 1) in
      let whole : z * power 𝓜 z (N - 1) ≡ power 𝓜 z N = sym (power-suc 𝓜 z (N - 1)) ∙ ap (power 𝓜 z) q in
      let after : z * w ≡ one = sym (assoc _ _ _) ∙ ap (λ s. s * S.to) whole ∙ S.right in
      let before : w' * z ≡ one = assoc _ _ _ ∙ ap (λ s. S.to * s) (sym (power-past 𝓛 z z z refl (N - 1)) ∙ whole) ∙ S.left in
      let same : w ≡ w' = sym (idl _) ∙ ap (λ s. s * w) (sym before) ∙ assoc _ _ _ ∙ ap (λ s. w' * s) after ∙ idrM _ in
      record { to = w; right = after; left = ap (λ s. s * z) same ∙ before }

  pub inverse-mul : (z y : M) → Inverse 𝓜 z → Inverse 𝓜 y → Inverse 𝓜 (z * y)
  inverse-mul z y Z Y = record {
    to = Y.to * Z.to;
    right = assoc _ _ _ ∙ ap (λ s. z * s) (sym (assoc _ _ _) ∙ ap (λ s. s * Z.to) Y.right ∙ idl _) ∙ Z.right;
    left = assoc _ _ _ ∙ ap (λ s. Y.to * s) (sym (assoc _ _ _) ∙ ap (λ s. s * y) Z.left ∙ idl _) ∙ Y.left;
  }

  pub inverse-power : (z : M) → Inverse 𝓜 z → (k : ℕ) → Inverse 𝓜 (power 𝓜 z k)
  inverse-power z Z zero = subst (Inverse 𝓜) (sym (power_zero 𝓜 z)) (record { to = one; right = idl one; left = idl one })
  inverse-power z Z (suc k) = subst (Inverse 𝓜) (sym (power-suc 𝓜 z k)) (inverse-mul z (power 𝓜 z k) Z (inverse-power z Z k))

-- ---- Maps

module _ {E : Type 0} (𝓔 : Exponents E) {Ω : Type 0} where
  open 𝓔 use {add, nil, neg}

  infixl 70 ◌*◌
  open maps 𝓔 Ω use {mul as ◌*◌, one}

  pub pair : {a b : Ω} {x y : E} → a ≡ b → x ≡ y → ◌≡◌ {A = Ω × E} (a, x) (b, y)
  pair p q = λ j. (p j, q j)

  pub at-column : {A B : Map 𝓔 Ω} → A ≡ B → (a : Ω) → A a ≡ B a
  at-column q a = ap (λ f. f a) q

  pub at_mul : (A B : Map 𝓔 Ω) (a : Ω) → (A * B) a ≡ ((A (B a).0).0, add (A (B a).0).1 (B a).1)
  unfolding maps compose
  at_mul A B a = refl

  pub at_one : (a : Ω) → one a ≡ (a, nil)
  unfolding maps
  at_one a = refl

  -- a product at a basis index whose image under the right factor is known
  pub mul_at : (A B : Map 𝓔 Ω) (a b : Ω) (x : E) → B a ≡ (b, x) → (A * B) a ≡ ((A b).0, add (A b).1 x)
  mul_at A B a b x q = at_mul A B a ∙ ap (λ s. ((A s.0).0, add (A s.0).1 s.1)) q

  pub maps-laws : Laws (maps 𝓔 Ω)
  unfolding maps compose
  maps-laws = record {
    assoc = λ a b c. fun_ext (λ k. pair refl (𝓔.assoc _ _ _));
    idl = λ a. fun_ext (λ k. pair refl (𝓔.idl _));
    idr = λ a. fun_ext (λ k. pair refl (idr 𝓔 _));
  }

  pub inverse-diagonal : (s : Ω → E) → Inverse (maps 𝓔 Ω) (diagonal 𝓔 Ω s)
  unfolding maps compose diagonal
  inverse-diagonal s = record {
    to = diagonal 𝓔 Ω (λ a. neg (s a));
    right = fun_ext (λ a. pair refl (𝓔.negr (s a)));
    left = fun_ext (λ a. pair refl (negl 𝓔 (s a)));
  }

  -- what has an inverse takes different basis indices to different ones
  pub inverse-injective : (Z : Map 𝓔 Ω) → Inverse (maps 𝓔 Ω) Z → (a b : Ω) → (Z a).0 ≡ (Z b).0 → a ≡ b
  inverse-injective Z W a b q =
      let back : (a : Ω) → (W.to (Z a).0).0 ≡ a = λ a. ap (λ z. z.0) (sym (at_mul W.to Z a) ∙ at-column W.left a ∙ at_one a) in
      sym (back a) ∙ ap (λ z. (W.to z).0) q ∙ back b

  -- ---- Powers

  pub power-fixes : (A : Map 𝓔 Ω) (a : Ω) (x : E) → A a ≡ (a, x) → (k : ℕ) → power (maps 𝓔 Ω) A k a ≡ (a, times 𝓔 k x)
  power-fixes A a x q zero = at-column (power_zero (maps 𝓔 Ω) A) a ∙ at_one a ∙ pair refl (sym (total-zero 𝓔 (λ k. x)))
  power-fixes A a x q (suc k) =
      at-column (power-suc (maps 𝓔 Ω) A k) a ∙ mul_at A (power (maps 𝓔 Ω) A k) a a (times 𝓔 k x) (power-fixes A a x q k)
      ∙ ap (λ s. (s.0, add s.1 (times 𝓔 k x))) q ∙ pair refl (sym (total-suc 𝓔 (λ k. x) k))

  -- the exponents of the diagonal add up along the way
  pub power-diagonal : (A : Map 𝓔 Ω) (s : Ω → E) (k : ℕ) (a : Ω)
      → power (maps 𝓔 Ω) (A * diagonal 𝓔 Ω s) k a
      ≡ ((power (maps 𝓔 Ω) A k a).0, add (total 𝓔 (λ l. s (power (maps 𝓔 Ω) A l a).0) k) (power (maps 𝓔 Ω) A k a).1)
  unfolding maps compose diagonal
  power-diagonal A s zero a = at-column (power_zero (maps 𝓔 Ω) _) a
      ∙ sym (ap (λ f. ((f a).0, add (total 𝓔 (λ l. s (power (maps 𝓔 Ω) A l a).0) 0) (f a).1)) (power_zero (maps 𝓔 Ω) A)
      ∙ pair refl (ap (λ t. add t nil) (total-zero 𝓔 _) ∙ 𝓔.idl _))
  power-diagonal A s (suc k) a =
      at-column (power-suc (maps 𝓔 Ω) _ k) a ∙ ap (λ t. ((A t.0).0, add (add (A t.0).1 (s t.0)) t.1)) (power-diagonal A s k a)
      ∙ pair refl (regroup 𝓔 _ _ _ _)
      ∙ sym (ap (λ f. ((f a).0, add (total 𝓔 (λ l. s (power (maps 𝓔 Ω) A l a).0) (suc k)) (f a).1)) (power-suc (maps 𝓔 Ω) A k)
      ∙ pair refl (ap₂ add (total-suc 𝓔 _ k) refl))
