-- ORDER: every element of a level to the power of the level's order is trivial. The exponent on top of x^p is 0, so x^p
-- lies on the level below. Inverses on both sides follow.
--
--   order-positive                   an order is positive
--   order_one                        x to the power of the order is the unit
--   inverse                          a power that is the inverse
--   inverse-right, inverse_left      on both sides
--   undo-left, cancel_left           a factor on the left is taken off
use mathlib.Core.Path.{◌≡◌, refl, sym, ◌∙◌, ap}
use mathlib.Core.Logic.{by_cases}
use Prim.Native.Nat.{ℕ, zero, suc, ◌+◌, ◌*◌ as ◌·◌, ◌-◌, ◌≤◌, ◌<◌}
use native.Mathlib.Nat.{mul-pos}
use native.Mathlib.Omega.{arith}
use native.Mathlib.Decide.{dec_lt}
use Rattle.definitions.specs.Presentation.{trivial, order, power}
use Rattle.definitions.specs.Consistency.{mul, conj}
use Rattle.group.specs.Context.{Context, Nf}
use Rattle.group.proofs.Values.{power-suc, power-mul, power-past, power-hom}
use Rattle.group.proofs.Clauses.{mul_step-below, mul_step-over, mul-suc}
use Rattle.group.proofs.Cyclic.{division-unique}
use Rattle.group.proofs.Level.{Nf-path, level, low, low_hom}
use Rattle.group.proofs.Group.{TestedContext, group}

module _ (C : Context) where
  open C use {P, two}

  pub order-positive : (i : ℕ) → 0 < order P i
  unfolding order
  order-positive zero = omega arith
  order-positive (suc i) = mul-pos (omega (arith, two i)) (order-positive i)

  mul-top : (i : ℕ) (x y : Nf C (suc i)) → (k : ℕ) × (((level C (suc i)).mul x y).0.0 + k · P.p i ≡ x.0.0 + y.0.0)
  unfolding level
  mul-top i x y = by_cases (dec_lt (x.0.0 + y.0.0) (P.p i))
      (λ l. (0, omega (arith, ap (λ t. t.0) (mul-suc P i x.0 y.0 ∙ mul_step-below (P.p i) (mul P i) (conj P i i) (P.u i) x.0 y.0 l))))
      (λ l. (1, omega (arith, ap (λ t. t.0) (mul-suc P i x.0 y.0 ∙ mul_step-over (P.p i) (mul P i) (conj P i i) (P.u i) x.0 y.0 (omega arith)))))

  power-top : (i : ℕ) (x : Nf C (suc i)) (m : ℕ) → (k : ℕ) × ((power (level C (suc i)) x m).0.0 + k · P.p i ≡ m · x.0.0)
  unfolding power level trivial
  power-top i x zero = (0, omega arith)
  power-top i x (suc m) = let (k, q) = power-top i x m in let (l, r) = mul-top i x (power (level C (suc i)) x m) in (k + l, omega (arith, q, r))

  -- x^p is on the level below
  power-low : (i : ℕ) (x : Nf C (suc i)) → (y : Nf C i) × (power (level C (suc i)) x (P.p i) ≡ low C i y)
  unfolding low
  power-low i x =
      let y = power (level C (suc i)) x (P.p i) in
      let (k, q) = power-top i x (P.p i) in
      let ks : k ≡ x.0.0 = division-unique (P.p i) y.0.0 0 k x.0.0 y.1.0 (omega (arith, two i)) (omega (arith, q)) in
      let z : y.0.0 ≡ 0 = omega (arith, ap (λ n. n · P.p i) ks, q) in
      ((y.0.1, y.1.1), Nf-path C (suc i) _ _ (ap (λ t. (t, y.0.1)) z))

  unfoldable pub inverse : (i : ℕ) → Nf C i → Nf C i
  inverse i x = power (level C i) x (order P i - 1)

module _ (T : TestedContext) where
  open T use {context as C}

  pub order_one : (i : ℕ) → i ≤ T.n → (x : Nf T.context i) → power (level T.context i) x (order T.context.P i) ≡ (level T.context i).one
  unfolding order
  order_one zero l x = Nf-path C 0 _ _ refl
  order_one (suc i) l x =
      let (y, q) = power-low C i x in
      power-mul (group T (suc i) l).laws x (C.P.p i) (order C.P i) ∙ ap (λ s. power (level C (suc i)) s (order C.P i)) q
      ∙ sym (power-hom (low_hom C i) y (order C.P i)) ∙ ap (low C i) (order_one i (omega arith) y) ∙ (low_hom C i).on_one

  module _ (i : ℕ) (l : i ≤ T.n) where
    pub inverse-right : (x : Nf T.context i) → (level T.context i).mul x (inverse T.context i x) ≡ (level T.context i).one
    unfolding inverse
    inverse-right x = let q : suc (order C.P i - 1) ≡ order C.P i = omega (arith, order-positive C i) in
        sym (power-suc (level C i) x _) ∙ ap (power (level C i) x) q ∙ order_one i l x

    pub inverse_left : (x : Nf T.context i) → (level T.context i).mul (inverse T.context i x) x ≡ (level T.context i).one
    unfolding inverse
    inverse_left x = sym (power-past (group T i l).laws x x x refl (order C.P i - 1)) ∙ inverse-right x

    pub undo-left : (x y : Nf T.context i) → (level T.context i).mul (inverse T.context i x) ((level T.context i).mul x y) ≡ y
    undo-left x y = sym ((group T i l).laws.assoc _ _ _) ∙ ap (λ s. (level C i).mul s y) (inverse_left x) ∙ (group T i l).laws.idl y

    pub cancel_left : (g x y : Nf T.context i) → (level T.context i).mul g x ≡ (level T.context i).mul g y → x ≡ y
    cancel_left g x y q = sym (undo-left g x) ∙ ap ((level C i).mul (inverse C i g)) q ∙ undo-left g y
