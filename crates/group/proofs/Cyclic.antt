-- The cyclic extension of a monoid by an endomorphism f, an element u and a number p: pairs of an exponent below p and
-- an element, with carries. This is how one level stands on the one below. Only 0 < p is used of p.
--
--   Cyclic 𝓐 p f u                 f is an endomorphism that fixes u, and f done p times is conjugation by u
--   cyclic-assoc, cyclic-idl, cyclic-idr    the product with carry is associative and has a unit
--   division-unique                division with remainder has one quotient
use mathlib.Core.Path.{◌≡◌, refl, sym, ◌∙◌, ap}
use mathlib.Core.Logic.{by_cases}
use Prim.Native.Nat.{ℕ, zero, suc, ◌+◌, ◌*◌ as ◌·◌, ◌-◌, ◌/◌, ◌<◌}
use native.Mathlib.Nat.{zero-add, add-zero, zero-mul, suc-mul}
use native.Mathlib.Omega.{arith}
use native.Mathlib.Decide.{dec_lt}
use lib.Arith.{digits_div}
use Rattle.definitions.specs.Lists.{iter}
use Rattle.definitions.specs.Presentation.{Mul, power}
use Rattle.definitions.specs.Consistency.{mul_step}
use Rattle.numbers.proofs.Lists.{iter-zero, iter-add, iter-op, iter-fix}
use Rattle.group.specs.Models.{Laws}
use Rattle.group.proofs.Values.{power_zero, power-suc, power-one, power-add, power-past}
use Rattle.group.proofs.Clauses.{mul_step-below, mul_step-over}

pub division-unique : (p r t k l : ℕ) → r < p → t < p → r + k · p ≡ t + l · p → k ≡ l
division-unique p r t k l a b q = let e : k · p + r ≡ l · p + t = omega arith in sym (digits_div k a) ∙ ap (λ n. n / p) e ∙ digits_div l b

pub record Cyclic {A : Type 0} (𝓐 : Mul A) (p : ℕ) (f : A → A) (u : A) : Type 0 where
  pub laws : Laws 𝓐
  pub positive : 0 < p
  pub f_one : f 𝓐.one ≡ 𝓐.one
  pub f_mul : (x y : A) → f (𝓐.mul x y) ≡ 𝓐.mul (f x) (f y)
  pub f_u : f u ≡ u
  pub inner : (x : A) → 𝓐.mul u (iter f p x) ≡ 𝓐.mul x u

module _ {A : Type 0} {𝓐 : Mul A} {p : ℕ} {f : A → A} {u : A} (C : Cyclic 𝓐 p f u) where
  infixl 70 ◌*◌
  open 𝓐 use {mul as ◌*◌, one}
  open C use {laws, positive}
  open C.laws use {assoc, idl, idr}

  abbrev U : ℕ → A
  U = power 𝓐 u

  iter-mul : (k : ℕ) (x y : A) → iter f k (x * y) ≡ iter f k x * iter f k y
  iter-mul = iter-op f ◌*◌ C.f_mul

  iter-U : (k l : ℕ) → iter f k (U l) ≡ U l
  iter-U k zero = simp (power_zero, iter-fix f one C.f_one k)
  iter-U k (suc l) = simp (power-suc, iter-mul k, iter-fix f u C.f_u k, iter-U k l)

  -- u^l f^(l p) (x) = x u^l
  inner-power : (l : ℕ) (x : A) → U l * iter f (l · p) x ≡ x * U l
  inner-power zero x = simp (zero-mul, iter-zero, power_zero, idl, idr)
  inner-power (suc l) x = simp (suc-mul, ← iter-add f (l · p) p x, power-suc, power-past laws u u u refl l, assoc, C.inner)
      (sym (assoc _ _ _) ∙ ap (λ t. t * u) (inner-power l x) ∙ assoc _ _ _)

  -- a pair c with exponent s before z, brought below p: the exponent r and how often p was taken off
  record Reduced (s : ℕ) (z : A) (c : ℕ × A) : Type 0 where
    r : ℕ
    k : ℕ
    small : r < p
    split : r + k · p ≡ s
    is : c ≡ (r, U k * z)

  abbrev mul_e : ℕ × A → ℕ × A → ℕ × A
  mul_e = mul_step p ◌*◌ f u

  reduced : (x y : ℕ × A) → x.0 < p → y.0 < p → Reduced (x.0 + y.0) (iter f y.0 x.1 * y.1) (mul_e x y)
  reduced x y a b = by_cases (dec_lt (x.0 + y.0) p)
      (λ h. record { r = x.0 + y.0; k = 0; small = h; split = simp zero-mul (omega arith); is = mul_step-below p ◌*◌ f u x y h ∙ simp (power_zero, idl) })
      (λ h. record {
        r = x.0 + y.0 - p;
        k = 1;
        small = omega arith;
        split = omega arith;
        is = mul_step-over p ◌*◌ f u x y (omega arith) ∙ simp (power-one laws);
      })

  left-form : (k k' b c : ℕ) (x y z : A) → U k * (iter f c (U k' * (iter f b x * y)) * z) ≡ U (k + k') * (iter f (b + c) x * (iter f c y * z))
  left-form k k' b c x y z = simp (iter-mul, iter-U, iter-add, power-add laws, assoc)

  right-form : (l l' t : ℕ) (x q : A) → U l * (iter f t x * (U l' * q)) ≡ U (l + l') * (iter f (t + l' · p) x * q)
  right-form l l' t x q = simp (power-add laws, ← iter-add f t (l' · p) x, assoc)
      (ap (λ s. U l * s) (sym (assoc _ _ _) ∙ ap (λ s. s * q) (sym (inner-power l' (iter f t x))) ∙ assoc _ _ _))

  -- both ways of bracketing take p off equally often, since both divide a + b + c by p
  middle : (x y z : A) (a b c r r' k k' t t' l l' : ℕ) → r < p → t < p → r' + k' · p ≡ a + b → r + k · p ≡ r' + c → t' + l' · p ≡ b + c → t + l · p ≡ a + t'
      → ◌≡◌ {A = ℕ × A} (r, U k * (iter f c (U k' * (iter f b x * y)) * z)) (t, U l * (iter f t' x * (U l' * (iter f c y * z))))
  middle x y z a b c r r' k k' t t' l l' h h' e1 e2 e3 e4 =
      let ks : k + k' ≡ l + l' = division-unique p r t (k + k') (l + l') h h' (omega arith) in
      let rs : r ≡ t = omega (arith, ap (λ n. n · p) ks) in rw (left-form, right-form, ks, rs, e3)

  pub cyclic-assoc : (x y z : ℕ × A) → x.0 < p → y.0 < p → z.0 < p → mul_step p ◌*◌ f u (mul_step p ◌*◌ f u x y) z ≡ mul_step p ◌*◌ f u x (mul_step p ◌*◌ f u y z)
  cyclic-assoc x y z a b c =
      let xy = reduced x y a b in
      let yz = reduced y z b c in
      let l = reduced (xy.r, U xy.k * (iter f y.0 x.1 * y.1)) z xy.small c in
      let r = reduced x (yz.r, U yz.k * (iter f z.0 y.1 * z.1)) a yz.small in
      rw (xy.is, yz.is) (l.is ∙ middle _ _ _ _ _ _ _ _ _ _ _ _ _ _ l.small r.small xy.split l.split yz.split r.split ∙ sym r.is)

  pub cyclic-idl : (x : ℕ × A) → x.0 < p → mul_step p ◌*◌ f u (0, one) x ≡ x
  cyclic-idl x a = mul_step-below p ◌*◌ f u (0, one) x (omega arith) ∙ simp (zero-add, iter-fix f one C.f_one, idl)

  pub cyclic-idr : (x : ℕ × A) → x.0 < p → mul_step p ◌*◌ f u x (0, one) ≡ x
  cyclic-idr x a = mul_step-below p ◌*◌ f u x (0, one) (omega arith) ∙ simp (add-zero, iter-zero, idr)
