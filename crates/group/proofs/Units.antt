-- What holds of the trivial form on every level, whether or not the test passes: it is a unit of valid forms,
-- conjugation fixes it, and powers of a generator are what they seem.
--
--   mul-trivial-left, mul-trivial-right    the unit laws of valid forms
--   conj-trivial                           a conjugate of the trivial form
--   mul-top-below, mul-top-over            a power of the generator on top times a form
--   power-generator                        the powers of the generator on top, below its prime
--   conj-empty, conj-zero                  conjugation where the word on top is empty, or the exponent 0
use mathlib.Core.Path.{◌≡◌, refl, sym, ◌∙◌, ap, ap₂}
use Prim.Native.Nat.{ℕ, zero, suc, ◌+◌, ◌-◌, ◌≤◌, ◌<◌}
use native.Mathlib.Nat.{zero-add, add-zero}
use native.Mathlib.Omega.{arith}
use Rattle.definitions.specs.Presentation.{NF, trivial, Valid, power}
use Rattle.definitions.specs.Consistency.{mul, conj, forms}
use Rattle.numbers.proofs.Lists.{iter-zero, iter-fix}
use Rattle.group.specs.Context.{Context}
use Rattle.group.proofs.Values.{trivial-suc, power_zero, power-suc}
use Rattle.group.proofs.Clauses.{mul_step-below, mul_step-over, mul-suc, conj-suc}
use Rattle.group.proofs.Level.{trivial-valid, conj-valid}

module _ (C : Context) where
  open C use {P, two}

  record Units (i : ℕ) : Type 0 where
    left : (x : NF i) → Valid P i x → mul P i (trivial i) x ≡ x
    right : (x : NF i) → Valid P i x → mul P i x (trivial i) ≡ x
    conj_one : (j : ℕ) → conj P i j (trivial i) ≡ trivial i

  -- (a, 1) (b, y) without a carry
  top_below : (i : ℕ) → Units i → (a b : ℕ) (y : NF i) → Valid P i y → a + b < P.p i → mul P (suc i) (a, trivial i) (b, y) ≡ (a + b, y)
  top_below i U a b y v l = mul-suc P i _ _ ∙ mul_step-below (P.p i) (mul P i) (conj P i i) (P.u i) (a, trivial i) (b, y) l
      ∙ ap (λ t. (a + b, mul P i t y)) (iter-fix (conj P i i) (trivial i) (U.conj_one i) b) ∙ ap (λ t. (a + b, t)) (U.left y v)

  units-suc : (i : ℕ) → Units i → Units (suc i)
  units-suc i U = record { left = l; right = r; conj_one = c }
    where
      l : (x : NF (suc i)) → Valid P (suc i) x → mul P (suc i) (trivial (suc i)) x ≡ x
      l x v = ap (λ t. mul P (suc i) t x) (trivial-suc i) ∙ top_below i U 0 x.0 x.1 v.1 (omega (arith, v.0)) ∙ ap (λ t. (t, x.1)) (zero-add x.0)

      r : (x : NF (suc i)) → Valid P (suc i) x → mul P (suc i) x (trivial (suc i)) ≡ x
      r x v = ap (mul P (suc i) x) (trivial-suc i) ∙ mul-suc P i _ _ ∙ mul_step-below (P.p i) (mul P i) (conj P i i) (P.u i) x (0, trivial i)
          (omega (arith, v.0)) ∙ ap₂ (λ s t. (s, mul P i t (trivial i))) (add-zero x.0) (iter-zero (conj P i i) x.1)
          ∙ ap (λ t. (x.0, t)) (U.right x.1 v.1)

      c : (j : ℕ) → conj P (suc i) j (trivial (suc i)) ≡ trivial (suc i)
      c j = ap (conj P (suc i) j) (trivial-suc i) ∙ conj-suc P i j (0, trivial i) ∙ ap₂ (mul P (suc i)) (power_zero (forms P (suc i)) _) (ap (λ t. (0, t)) (U.conj_one j))
          ∙ ap (mul P (suc i) (trivial (suc i))) (sym (trivial-suc i)) ∙ l (trivial (suc i)) (trivial-valid C (suc i))

  units : (i : ℕ) → Units i
  units zero = record { left = λ x v. refl; right = λ x v. refl; conj_one = λ j. refl }
  units (suc i) = units-suc i (units i)

  pub mul-trivial-left : (i : ℕ) (x : NF i) → Valid C.P i x → mul C.P i (trivial i) x ≡ x
  mul-trivial-left i = (units i).left

  pub mul-trivial-right : (i : ℕ) (x : NF i) → Valid C.P i x → mul C.P i x (trivial i) ≡ x
  mul-trivial-right i = (units i).right

  pub conj-trivial : (i j : ℕ) → conj C.P i j (trivial i) ≡ trivial i
  conj-trivial i = (units i).conj_one

  -- (a, 1) (b, y) below the carry, and at the carry
  pub mul-top-below : (i a b : ℕ) (y : NF i) → Valid C.P i y → a + b < C.P.p i → mul C.P (suc i) (a, trivial i) (b, y) ≡ (a + b, y)
  mul-top-below i = top_below i (units i)

  pub mul-top-over : (i a b : ℕ) (y : NF i) → Valid C.P i y → C.P.p i ≤ a + b → mul C.P (suc i) (a, trivial i) (b, y) ≡ (a + b - C.P.p i, mul C.P i (C.P.u i) y)
  mul-top-over i a b y v l = mul-suc P i _ _ ∙ mul_step-over (P.p i) (mul P i) (conj P i i) (P.u i) (a, trivial i) (b, y) l
      ∙ ap (λ t. (a + b - P.p i, mul P i (P.u i) (mul P i t y))) (iter-fix (conj P i i) (trivial i) (conj-trivial i i) b)
      ∙ ap (λ t. (a + b - P.p i, mul P i (P.u i) t)) (mul-trivial-left i y v)

  pub power-generator : (i a : ℕ) → a < C.P.p i → power (forms C.P (suc i)) (1, trivial i) a ≡ (a, trivial i)
  power-generator i zero l = power_zero (forms P (suc i)) _ ∙ trivial-suc i
  power-generator i (suc a) l = let q : 1 + a ≡ suc a = omega arith in
      power-suc (forms P (suc i)) _ a ∙ ap (mul P (suc i) (1, trivial i)) (power-generator i a (omega arith))
      ∙ mul-top-below i 1 a (trivial i) (trivial-valid C i) (omega arith) ∙ ap (λ t. (t, trivial i)) q

  -- the word is empty, or the exponent 0
  pub conj-empty : (i j : ℕ) (x : NF (suc i)) → Valid C.P (suc i) x → C.P.w i j ≡ trivial (suc i) → conj C.P (suc i) j x ≡ (x.0, conj C.P i j x.1)
  conj-empty i j x v e = let z : x.0 + 0 ≡ x.0 = omega arith in
      conj-suc P i j x ∙ ap (λ t. mul P (suc i) (power (forms P (suc i)) t x.0) (0, conj P i j x.1))
      (ap (mul P (suc i) (1, trivial i)) e ∙ mul-trivial-right (suc i) (1, trivial i) (two i, trivial-valid C i))
      ∙ ap (λ t. mul P (suc i) t (0, conj P i j x.1)) (power-generator i x.0 v.0)
      ∙ mul-top-below i x.0 0 (conj P i j x.1) (conj-valid C i j x.1 v.1) (omega (arith, v.0)) ∙ ap (λ t. (t, conj P i j x.1)) z

  pub conj-zero : (i j : ℕ) (x : NF i) → Valid C.P i x → conj C.P (suc i) j (0, x) ≡ (0, conj C.P i j x)
  conj-zero i j x v = conj-suc P i j (0, x) ∙ ap (λ t. mul P (suc i) t (0, conj P i j x)) (power_zero (forms P (suc i)) _)
      ∙ mul-trivial-left (suc i) (0, conj P i j x) (omega (arith, two i), conj-valid C i j x v)
