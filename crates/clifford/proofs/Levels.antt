-- The levels of a presentation that passes the known test: each is the cyclic extension of the one below that a step
-- asks for.
--
--   exponent_nf, rest_nf     the exponent of the generator on top, and the form of the level below
--   extension              level suc i over level i
use mathlib.Core.Path.{◌≡◌, refl, sym, ◌∙◌, ap, ap₂}
use mathlib.Core.Logic.{by_cases}
use Prim.Native.Nat.{ℕ, suc, ◌+◌, ◌-◌, ◌≤◌, ◌<◌}
use native.Mathlib.Omega.{arith}
use native.Mathlib.Decide.{dec_lt}
use Rattle.definitions.specs.Lists.{iter}
use Rattle.definitions.specs.Presentation.{trivial, order, Mul, power}
use Rattle.definitions.specs.Consistency.{mul, conj}
use Rattle.numbers.proofs.Lists.{iter-map}
use Rattle.group.specs.Models.{Laws, Hom}
use Rattle.group.specs.Context.{Context, Nf}
use Rattle.group.proofs.Values.{power_zero, power-suc, power-add, iter-past, value-suc}
use Rattle.group.proofs.Clauses.{mul-suc, mul_step-below, mul_step-over}
use Rattle.group.proofs.Level.{Nf-path, level, conj_nf, u_nf, w_nf, gen_nf, low, top, gen-low, gen-top, low_hom, low_value}
use Rattle.group.proofs.Group.{TestedContext, group, cyclic, conj_low, low_top}
use Rattle.group.proofs.Order.{order-positive, order_one, inverse, inverse-right, inverse_left}
use Rattle.group.proofs.Conjugation.{conj-hom, conj_period}
use Rattle.clifford.specs.Extension.{Extension}

module _ (C : Context) (i : ℕ) where
  abbrev pub exponent_nf : Nf C (suc i) → ℕ
  exponent_nf x = x.0.0

  abbrev pub rest_nf : Nf C (suc i) → Nf C i
  rest_nf x = (x.0.1, x.1.1)

  pub exponent_low : (x : Nf C i) → exponent_nf (low C i x) ≡ 0
  unfolding low
  exponent_low x = refl

  pub rest_low : (x : Nf C i) → rest_nf (low C i x) ≡ x
  unfolding low
  rest_low x = refl

  pub exponent_top : exponent_nf (top C i) ≡ 1
  unfolding top
  exponent_top = refl

  pub rest_top : rest_nf (top C i) ≡ (level C i).one
  unfolding top level
  rest_top = Nf-path C i _ _ refl

  conj-iter : (k : ℕ) (x : Nf C i) → (iter (conj_nf C i i) k x).0 ≡ iter (conj C.P i i) k x.0
  unfolding conj_nf
  conj-iter k x = iter-map (λ (x : Nf C i). x.0) (conj_nf C i i) (conj C.P i i) (λ x. refl) k x

  -- a product below the carry, and past it
  mul-below : (x z : Nf C (suc i)) → exponent_nf x + exponent_nf z < C.P.p i
      → (exponent_nf ((level C (suc i)).mul x z) ≡ exponent_nf x + exponent_nf z)
      × (rest_nf ((level C (suc i)).mul x z) ≡ (level C i).mul (iter (conj_nf C i i) (exponent_nf z) (rest_nf x)) (rest_nf z))
  unfolding level
  mul-below x z l =
      let q = mul-suc C.P i x.0 z.0 ∙ mul_step-below (C.P.p i) (mul C.P i) (conj C.P i i) (C.P.u i) x.0 z.0 l in
      (ap (λ t. t.0) q, Nf-path C i _ _ (ap (λ t. t.1) q ∙ ap (λ t. mul C.P i t z.0.1) (sym (conj-iter z.0.0 (rest_nf x)))))

  mul-over : (x z : Nf C (suc i)) → C.P.p i ≤ exponent_nf x + exponent_nf z
      → (exponent_nf ((level C (suc i)).mul x z) ≡ exponent_nf x + exponent_nf z - C.P.p i)
      × (rest_nf ((level C (suc i)).mul x z) ≡ (level C i).mul (u_nf C i) ((level C i).mul (iter (conj_nf C i i) (exponent_nf z) (rest_nf x)) (rest_nf z)))
  unfolding level u_nf
  mul-over x z l =
      let q = mul-suc C.P i x.0 z.0 ∙ mul_step-over (C.P.p i) (mul C.P i) (conj C.P i i) (C.P.u i) x.0 z.0 l in (
        ap (λ t. t.0) q,
        Nf-path C i _ _
            (ap (λ t. t.1) q ∙ ap (λ t. mul C.P i (C.P.u i) (mul C.P i t z.0.1)) (sym (conj-iter z.0.0 (rest_nf x)))),
      )

  module _ {M : Type 0} {𝓜 : Mul M} (𝓛 : Laws 𝓜) (d : Nf C i → M) (H : Hom (level C i) 𝓜 d) (y : M)
      (past : (x : Nf C i) → 𝓜.mul y (d (conj_nf C i i x)) ≡ 𝓜.mul (d x) y) (root : power 𝓜 y (C.P.p i) ≡ d (u_nf C i)) where
    infixl 70 ◌*◌
    open 𝓜 use {mul as ◌*◌}
    open 𝓛 use {assoc, idl, idr}

    abbrev pow : ℕ → M
    pow = power 𝓜 y

    together : (a b : ℕ) (g h : Nf C i) → pow (a + b) * d ((level C i).mul (iter (conj_nf C i i) b g) h) ≡ pow a * d g * (pow b * d h)
    together a b g h =
        ap₂ (◌*◌) (power-add 𝓛 y a b) (H.on_mul _ _) ∙ assoc _ _ _
        ∙ ap (λ s. pow a * s) (sym (assoc _ _ _) ∙ ap (λ s. s * d h) (iter-past 𝓛 d y (conj_nf C i i) past b g) ∙ assoc _ _ _) ∙ sym (assoc _ _ _)

    raise-mul : (x z : Nf C (suc i)) → pow (exponent_nf ((level C (suc i)).mul x z)) * d (rest_nf ((level C (suc i)).mul x z))
        ≡ pow (exponent_nf x) * d (rest_nf x) * (pow (exponent_nf z) * d (rest_nf z))
    raise-mul x z = by_cases (dec_lt (exponent_nf x + exponent_nf z) (C.P.p i))
        (λ l. let (a, b) = mul-below x z l in ap₂ (λ s t. pow s * d t) a b ∙ together _ _ _ _) (λ l.
        let (a, b) = mul-over x z (omega arith) in
        let e : exponent_nf x + exponent_nf z - C.P.p i + C.P.p i ≡ exponent_nf x + exponent_nf z = omega arith in
        let r : M = d ((level C i).mul (iter (conj_nf C i i) (exponent_nf z) (rest_nf x)) (rest_nf z)) in
        ap₂ (λ s t. pow s * d t) a b ∙ ap (λ s. pow (exponent_nf x + exponent_nf z - C.P.p i) * s) (H.on_mul _ _ ∙ ap (λ s. s * r) (sym root))
        ∙ sym (assoc _ _ _) ∙ ap (λ s. s * r) (sym (power-add 𝓛 y _ _) ∙ ap pow e) ∙ together _ _ _ _)

    pub raise : Hom (level C (suc i)) 𝓜 (λ x. 𝓜.mul (power 𝓜 y (exponent_nf x)) (d (rest_nf x)))
    unfolding level trivial
    raise = record {
      on_one = ap₂ (◌*◌) (power_zero 𝓜 y) (ap d (Nf-path C i _ _ refl) ∙ H.on_one) ∙ idl _;
      on_mul = raise-mul;
    }

module _ (T : TestedContext) (i : ℕ) (l : i < T.n) where
  abbrev pub C : Context
  C = T.context

  abbrev pub i≤n : i ≤ T.n
  i≤n = omega arith

  infixl 70 ◌⊛◌
  open level C (suc i) use {mul as ◌⊛◌}

  -- an element is the value of its exponents
  pub decomposed : (x : Nf C (suc i)) → x ≡ power (level C (suc i)) (top C i) (exponent_nf C i x) ⊛ low C i (rest_nf C i x)
  decomposed x =
      sym ((group T (suc i) l).gen_value x) ∙ value-suc (level C (suc i)) (gen_nf C (suc i)) i x.0
      ∙ ap₂ (λ g t. power (level C (suc i)) g x.0.0 ⊛ t) (gen-top C i)
      (low_value C i (gen_nf C i) (gen_nf C (suc i)) i (λ k a. gen-low C i k a) x.0.1 ∙ ap (low C i) ((group T i i≤n).gen_value (rest_nf C i x)))

  pub top_power : power (level C (suc i)) (top C i) (C.P.p i) ≡ low C i (u_nf C i)
  unfolding u_nf
  top_power =
      ap (λ g. power (level C (suc i)) g (C.P.p i)) (sym (gen-top C i)) ∙ (group T (suc i) l).satisfies.powers i (omega arith)
      ∙ low_value C i (gen_nf C i) (gen_nf C (suc i)) i (λ k a. gen-low C i k a) (C.P.u i) ∙ ap (low C i) ((group T i i≤n).gen_value (u_nf C i))

  pub conj_top : (j : ℕ) → i < j → conj_nf C (suc i) j (top C i) ≡ power (level C (suc i)) (top C i) (suc (C.P.w i j).0) ⊛ low C i (rest_nf C i (w_nf C i j))
  unfolding w_nf
  conj_top j ij =
      ap (conj_nf C (suc i) j) (sym (gen-top C i)) ∙ (group T (suc i) l).conj_gen j (omega arith) i (omega arith)
      ∙ ap₂ (◌⊛◌) (gen-top C i) ((group T (suc i) l).gen_value (w_nf C i j) ∙ decomposed (w_nf C i j)) ∙ sym ((group T (suc i) l).laws.assoc _ _ _)
      ∙ ap (λ s. s ⊛ low C i (rest_nf C i (w_nf C i j))) (sym (power-suc (level C (suc i)) (top C i) (C.P.w i j).0))

  abbrev pub extension : Extension (level T.context i) (level T.context (suc i)) (conj_nf T.context i) (conj_nf T.context (suc i)) i T.n
  extension = record {
    in_range = l;
    laws = (group T i i≤n).laws;
    inv = inverse C i;
    inv_right = inverse-right T i i≤n;
    inv_left = inverse_left T i i≤n;
    order = order C.P i;
    order_pos = order-positive C i;
    order_one = order_one T i i≤n;
    period = λ j. order C.P (suc j);
    period_pos = λ j. order-positive C (suc j);
    conj_period = λ j a b. conj_period T i j a b;
    p = C.P.p i;
    two = C.two i;
    u = u_nf C i;
    conj_u = (T.tests i l).fixes;
    inner = (cyclic C i (group T i i≤n) (T.tests i l)).inner;
    low = low C i;
    low_hom = low_hom C i;
    top = top C i;
    exponent = exponent_nf C i;
    rest = rest_nf C i;
    decompose = decomposed;
    exponent_low = exponent_low C i;
    rest_low = rest_low C i;
    exponent_top = exponent_top C i;
    rest_top = rest_top C i;
    low_top = low_top C i (group T i i≤n) (T.tests i l);
    top_power = top_power;
    extend = raise C i;
    conj⁺-hom = λ j a b. conj-hom T (suc i) j a b;
    conj_low = λ j a b. conj_low C i (group T i i≤n) (T.tests i l) j a;
    shift = λ j. suc (C.P.w i j).0;
    tail = λ j. rest_nf C i (w_nf C i j);
    conj_top = λ j a b. conj_top j a;
  }
