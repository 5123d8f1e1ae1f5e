-- Conjugation by a higher generator: level i stands within level suc j for i ≤ j, and there conjugation by generator j is
-- an automorphism of level i of finite order.
--
--   embed                     a form of level i as a form of a higher level
--   embed-inj, embed-hom      it is an injective homomorphism
--   embed-past                generator j carries a form to its conjugate
--   conj-hom                  conjugation of level i by generator j is an endomorphism
--   conj_period               done as often as the order of level suc j, it is the identity
--   conj-injective, conj-onto it is an automorphism
use mathlib.Core.Path.{◌≡◌, sym, ◌∙◌, ap, subst}
use mathlib.Core.Logic.{by_cases}
use Prim.Native.Nat.{ℕ, zero, suc, ◌+◌, ◌-◌, ◌≤◌, ◌<◌}
use native.Mathlib.Omega.{arith}
use native.Mathlib.Decide.{dec_le}
use Rattle.definitions.specs.Lists.{iter}
use Rattle.numbers.proofs.Lists.{iter-zero, iter-suc, iter-add}
use Rattle.definitions.specs.Presentation.{order, value}
use Rattle.group.specs.Models.{Laws, Hom}
use Rattle.group.specs.Context.{Context, Nf}
use Rattle.group.proofs.Values.{iter-past, value-trivial}
use Rattle.group.proofs.Sound.{sound}
use Rattle.group.proofs.Level.{level, conj_nf, gen_nf, low-inj, gen-low, low_value}
use Rattle.group.proofs.Group.{TestedContext, group, model}
use Rattle.group.proofs.Order.{order-positive, order_one, cancel_left}

unfoldable pub embed : (C : Context) (i m : ℕ) → Nf C i → Nf C m
embed C i m x = value (level C m) (gen_nf C m) i x.0

module _ (T : TestedContext) where
  open T use {context as C, n}

  embed-here : (m : ℕ) → m ≤ n → (a : ℕ) → m ≡ a → (x y : Nf C a) → embed C a m x ≡ embed C a m y → x ≡ y
  unfolding embed
  embed-here m l a e = subst (λ a. (x y : Nf C a) → embed C a m x ≡ embed C a m y → x ≡ y) e
      (λ x y q. sym ((group T m l).gen_value x) ∙ q ∙ (group T m l).gen_value y)

  pub embed-inj : (i m : ℕ) → i ≤ m → m ≤ T.n → (x y : Nf T.context i) → embed T.context i m x ≡ embed T.context i m y → x ≡ y
  unfolding embed
  embed-inj i zero a l x y q = let e : 0 ≡ i = omega arith in embed-here 0 l i e x y q
  embed-inj i (suc m) a l x y q = by_cases (dec_le i m)
      (λ h. let up = low_value C m (gen_nf C m) (gen_nf C (suc m)) i (λ k b. gen-low C m k (omega arith)) in
      embed-inj i m h (omega arith) x y (low-inj C m _ _ (sym (up x.0) ∙ q ∙ up y.0)))
      (λ h. let e : suc m ≡ i = omega arith in embed-here (suc m) l i e x y q)

  pub embed-hom : (i m : ℕ) → i ≤ m → (l : m ≤ T.n) → Hom (level T.context i) (level T.context m) (embed T.context i m)
  unfolding embed level model
  embed-hom i m a l = record {
    on_one = value-trivial (group T m l).laws (gen_nf C m) i;
    on_mul = λ x y. (sound (model T m l) i a).mul_value x.0 y.0;
  }

  module _ (i j : ℕ) (l : i ≤ j) (b : j < T.n) where
    infixl 70 ◌*◌ ◌⋆◌
    open level C (suc j) use {mul as ◌*◌}
    open level C i use {mul as ◌⋆◌}

    abbrev e : Nf C i → Nf C (suc j)
    e = embed C i (suc j)

    abbrev g : Nf C (suc j)
    g = gen_nf C (suc j) j

    abbrev f : Nf C i → Nf C i
    f = conj_nf C i j

    𝓛 : Laws (level C (suc j))
    𝓛 = (group T (suc j) b).laws

    pub embed-past : (x : Nf T.context i)
        → (level T.context (suc j)).mul (gen_nf T.context (suc j) j) (embed T.context i (suc j) (conj_nf T.context i j x))
        ≡ (level T.context (suc j)).mul (embed T.context i (suc j) x) (gen_nf T.context (suc j) j)
    unfolding embed conj_nf model
    embed-past x = (sound (model T (suc j) b) i (omega arith)).conj_value j l (omega arith) x.0

    injective : (x y : Nf C i) → e x ≡ e y → x ≡ y
    injective = embed-inj i (suc j) (omega arith) b

    H : Hom (level C i) (level C (suc j)) e
    H = embed-hom i (suc j) (omega arith) b

    pub conj-hom : Hom (level T.context i) (level T.context i) (conj_nf T.context i j)
    conj-hom = record {
      on_one = injective _ _ (cancel_left T (suc j) b g _ _ (embed-past _ ∙ ap (λ s. s * g) H.on_one
          ∙ 𝓛.idl g ∙ sym (𝓛.idr g) ∙ ap (λ s. g * s) (sym H.on_one)));
      on_mul = λ x y. injective _ _ (cancel_left T (suc j) b g _ _ (embed-past (x ⋆ y) ∙ ap (λ s. s * g) (H.on_mul x y) ∙ 𝓛.assoc _ _ _
          ∙ ap (λ s. e x * s) (sym (embed-past y)) ∙ sym (𝓛.assoc _ _ _) ∙ ap (λ s. s * e (f y)) (sym (embed-past x))
          ∙ 𝓛.assoc _ _ _ ∙ ap (λ s. g * s) (sym (H.on_mul (f x) (f y)))));
    }

    pub conj_period : (x : Nf T.context i) → iter (conj_nf T.context i j) (order T.context.P (suc j)) x ≡ x
    conj_period x = injective _ _ (sym (𝓛.idl _) ∙ ap (λ s. s * e (iter f (order C.P (suc j)) x)) (sym (order_one T (suc j) b g))
        ∙ iter-past 𝓛 e g f embed-past (order C.P (suc j)) x ∙ ap (λ s. e x * s) (order_one T (suc j) b g) ∙ 𝓛.idr _)

    -- so many conjugations more than one are the inverse
    abbrev back : ℕ
    back = order C.P (suc j) - 1

    pub conj-injective : (x y : Nf T.context i) → conj_nf T.context i j x ≡ conj_nf T.context i j y → x ≡ y
    conj-injective x y q = sym (undo x) ∙ ap (iter f back) q ∙ undo y
      where
        undo : (x : Nf C i) → iter f back (f x) ≡ x
        undo x = let e : suc back ≡ order C.P (suc j) = omega (arith, order-positive C (suc j)) in
            sym (iter-suc f back x) ∙ ap (λ k. iter f k x) e ∙ conj_period x

    pub conj-onto : (x : Nf T.context i) → conj_nf T.context i j (iter (conj_nf T.context i j) (order T.context.P (suc j) - 1) x) ≡ x
    conj-onto x = let e : back + 1 ≡ order C.P (suc j) = omega (arith, order-positive C (suc j)) in
        sym (iter-suc f 0 (iter f back x) ∙ iter-zero f _) ∙ iter-add f back 1 x ∙ ap (λ k. iter f k x) e ∙ conj_period x
