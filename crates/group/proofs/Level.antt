-- The valid normal forms of a level as a product and a unit, and the step from one level to the next.
--
--   Valid-prop, Nf-path              validity is no data: valid forms are equal where their exponents are
--   mul-valid, conj-valid            product and conjugation keep validity
--   level C i                        the valid normal forms of level i under mul
--   conj_nf, u_nf, w_nf, gen_nf          conjugation, words and generators as valid forms
--   forget                           a valid form is a normal form, as a homomorphism
--   low, top, low-inj                a form of level i within level suc i; the generator on top
--   gen-low, gen-top                 the generators of the next level
--   low_hom, low_value, conj-clause  how product, values and conjugation climb
--   laws-suc                         the laws climb by a cyclic extension
use mathlib.Core.Path.{◌≡◌, refl, sym, ◌∙◌, ap, subst}
use mathlib.Core.Logic.{by_cases}
use mathlib.Core.HLevel.{Σ_prop_path, ×_prop, Unit-prop}
use mathlib.Core.Bool.{true, false, cond}
use Prim.Native.Nat.{ℕ, zero, suc, ◌+◌, ◌<◌}
use lib.Dec.{eqb}
use native.Mathlib.Bridge.{le_prop}
use native.Mathlib.Omega.{arith}
use native.Mathlib.Decide.{dec_lt}
use Rattle.definitions.specs.Lists.{iter}
use Rattle.definitions.specs.Presentation.{NF, trivial, Presentation, Valid, Mul, power, value}
use Rattle.definitions.specs.Consistency.{mul_step, mul, conj, forms, generator}
use Rattle.numbers.proofs.Lists.{iter-zero}
use Rattle.group.specs.Models.{Laws, Hom}
use Rattle.group.specs.Context.{Context, Nf}
use Rattle.group.proofs.Values.{trivial-suc, power-ind, power-hom, value-hom, value-ext}
use Rattle.group.proofs.Clauses.{mul_step-below, mul_step-over, mul_step-map, mul-suc, conj-suc, generator-below, generator-top}
use Rattle.group.proofs.Cyclic.{Cyclic, cyclic-assoc, cyclic-idl, cyclic-idr}

pub Valid-prop : (P : Presentation) (i : ℕ) (x : NF i) → IsProp (Valid P i x)
Valid-prop P zero x = Unit-prop
Valid-prop P (suc i) x = ×_prop le_prop (Valid-prop P i x.1)

-- ---- The step keeps a property of the level below, and the bound on the exponent

iter-keeps : {A : Type 0} (In : A → Type 0) (f : A → A) → ((x : A) → In x → In (f x)) → (k : ℕ) (x : A) → In x → In (iter f k x)
unfolding iter
iter-keeps In f fi zero x h = h
iter-keeps In f fi (suc k) x h = iter-keeps In f fi k (f x) (fi x h)

mul_step-keeps : {A : Type 0} (In : A → Type 0) (p : ℕ) (m : A → A → A) (f : A → A) (u : A)
    → ((x y : A) → In x → In y → In (m x y)) → ((x : A) → In x → In (f x)) → In u
    → (x y : ℕ × A) → (x.0 < p) × In x.1 → (y.0 < p) × In y.1 → ((mul_step p m f u x y).0 < p) × In (mul_step p m f u x y).1
mul_step-keeps In p m f u mi fi ui x y hx hy =
    let z = mi _ _ (iter-keeps In f fi y.0 x.1 hx.1) hy.1 in
    by_cases (dec_lt (x.0 + y.0) p) (λ l. rw (mul_step-below p m f u x y l) (l, z))
    (λ l. rw (mul_step-over p m f u x y (omega arith)) (omega (arith, hx.0, hy.0), mi _ _ ui z))

module _ (C : Context) where
  open C use {P, two, u_valid, w_valid}

  pub Nf-path : (i : ℕ) (x y : Nf C i) → x.0 ≡ y.0 → x ≡ y
  Nf-path i x y q = Σ_prop_path (Valid-prop P i) q

  -- ---- Validity is kept

  pub trivial-valid : (i : ℕ) → Valid P i (trivial i)
  unfolding trivial
  trivial-valid zero = tt
  trivial-valid (suc i) = (omega (arith, two i), trivial-valid i)

  record Closed (i : ℕ) : Type 0 where
    on_mul : (x y : NF i) → Valid P i x → Valid P i y → Valid P i (mul P i x y)
    on_conj : (j : ℕ) (x : NF i) → Valid P i x → Valid P i (conj P i j x)

  closed : (i : ℕ) → Closed i
  closed zero = record { on_mul = λ x y h k. tt; on_conj = λ j x h. tt }
  closed (suc i) =
      let c = closed i in
      let m : (x y : NF (suc i)) → Valid P (suc i) x → Valid P (suc i) y → Valid P (suc i) (mul P (suc i) x y) = λ x y a b. subst (Valid P (suc i))
      (sym (mul-suc P i x y)) (mul_step-keeps (Valid P i) (P.p i) (mul P i) (conj P i i) (P.u i) c.on_mul (c.on_conj i) (u_valid i) x y a b) in
      record {
        on_mul = m;
        on_conj = λ j x h. subst (Valid P (suc i)) (sym (conj-suc P i j x)) (m _ _
            (power-ind (forms P (suc i)) (Valid P (suc i)) (trivial-valid (suc i)) m _ (m _ _ (two i, trivial-valid i) (w_valid i j)) x.0)
            (omega (arith, two i), c.on_conj j x.1 h.1));
      }

  pub mul-valid : (i : ℕ) (x y : NF i) → Valid P i x → Valid P i y → Valid P i (mul P i x y)
  mul-valid i = (closed i).on_mul

  pub conj-valid : (i j : ℕ) (x : NF i) → Valid P i x → Valid P i (conj P i j x)
  conj-valid i = (closed i).on_conj

  pub generator-valid : (i k : ℕ) → Valid P i (generator i k)
  unfolding generator
  generator-valid zero k = tt
  generator-valid (suc i) k = elim (eqb k i) as (λ b. Valid P (suc i) (cond b (1, trivial i) (0, generator i k)))
      [ true ↦ (two i, trivial-valid i) | false ↦ (omega (arith, two i), generator-valid i k) ]

  -- ---- Valid forms as a product and a unit

  unfoldable pub level : (i : ℕ) → Mul (Nf C i)
  level i = record { mul = λ x y. (mul P i x.0 y.0, mul-valid i x.0 y.0 x.1 y.1); one = (trivial i, trivial-valid i) }

  unfoldable pub conj_nf : (i j : ℕ) → Nf C i → Nf C i
  conj_nf i j x = (conj P i j x.0, conj-valid i j x.0 x.1)

  unfoldable pub u_nf : (i : ℕ) → Nf C i
  u_nf i = (P.u i, u_valid i)

  unfoldable pub w_nf : (k j : ℕ) → Nf C (suc k)
  w_nf k j = (P.w k j, w_valid k j)

  unfoldable pub gen_nf : (i k : ℕ) → Nf C i
  gen_nf i k = (generator i k, generator-valid i k)

  pub forget : (i : ℕ) → Hom (level i) (forms P i) (λ x. x.0)
  unfolding level
  forget i = record { on_one = refl; on_mul = λ x y. refl }

  -- ---- From one level to the next

  unfoldable pub low : (i : ℕ) → Nf C i → Nf C (suc i)
  low i x = ((0, x.0), (omega (arith, two i), x.1))

  unfoldable pub top : (i : ℕ) → Nf C (suc i)
  top i = ((1, trivial i), (two i, trivial-valid i))

  pub low-inj : (i : ℕ) (x y : Nf C i) → low i x ≡ low i y → x ≡ y
  unfolding low
  low-inj i x y q = Nf-path i x y (ap (λ t. t.0.1) q)

  pub low_hom : (i : ℕ) → Hom (level i) (level (suc i)) (low i)
  unfolding level low
  low_hom i = record {
    on_one = Nf-path (suc i) _ _ (sym (trivial-suc i));
    on_mul = λ x y. Nf-path (suc i) _ _ (sym (mul-suc P i (0, x.0) (0, y.0) ∙ mul_step-below (P.p i) (mul P i) (conj P i i) (P.u i) (0, x.0) (0, y.0) (omega (arith, two i)) ∙ simp iter-zero));
  }

  pub gen-low : (i k : ℕ) → k < i → gen_nf (suc i) k ≡ low i (gen_nf i k)
  unfolding gen_nf low
  gen-low i k l = Nf-path (suc i) _ _ (generator-below i k l)

  pub gen-top : (i : ℕ) → gen_nf (suc i) i ≡ top i
  unfolding gen_nf top
  gen-top i = Nf-path (suc i) _ _ (generator-top i)

  -- values over elements that climb
  pub low_value : (i : ℕ) (h : ℕ → Nf C i) (h' : ℕ → Nf C (suc i)) (k : ℕ) → ((m : ℕ) → m < k → h' m ≡ low i (h m)) → (x : NF k)
      → value (level (suc i)) h' k x ≡ low i (value (level i) h k x)
  low_value i h h' k q x = value-ext (level (suc i)) h' (λ m. low i (h m)) k q x ∙ sym (value-hom (low_hom i) h k x)

  -- conjugation one level up
  pub conj-clause : (i j : ℕ) (x : Nf C (suc i))
      → conj_nf (suc i) j x ≡ (level (suc i)).mul (power (level (suc i)) ((level (suc i)).mul (top i) (w_nf i j)) x.0.0) (low i (conj_nf i j (x.0.1, x.1.1)))
  unfolding conj_nf level low top w_nf
  conj-clause i j x = Nf-path (suc i) _ _ (conj-suc P i j x.0 ∙ ap (λ t. mul P (suc i) t (0, conj P i j x.0.1))
      (sym (power-hom (forget (suc i)) ((level (suc i)).mul (top i) (w_nf i j)) x.0.0)))

  module _ (i : ℕ) (E : Cyclic (level i) (P.p i) (conj_nf i i) (u_nf i)) where
    abbrev split : Nf C (suc i) → ℕ × Nf C i
    split x = (x.0.0, (x.0.1, x.1.1))

    abbrev join : ℕ × Nf C i → NF (suc i)
    join x = (x.0, x.1.0)

    abbrev mul_e : ℕ × Nf C i → ℕ × Nf C i → ℕ × Nf C i
    mul_e = mul_step (P.p i) (level i).mul (conj_nf i i) (u_nf i)

    join-mul : (x y : ℕ × Nf C i) → join (mul_e x y) ≡ mul P (suc i) (join x) (join y)
    unfolding level conj_nf u_nf
    join-mul x y = mul_step-map (λ t. t.0) (P.p i) (level i).mul (conj_nf i i) (u_nf i) (mul P i) (conj P i i) (λ a b. refl) (λ a. refl) x y ∙ sym (mul-suc P i _ _)

    pub laws-suc : Laws (level (suc i))
    unfolding level trivial
    laws-suc = record {
      assoc = λ x y z. Nf-path (suc i) _ _ (
          ap (λ t. mul P (suc i) t z.0) (sym (join-mul (split x) (split y))) ∙ sym (join-mul (mul_e (split x) (split y)) (split z))
          ∙ ap join (cyclic-assoc E (split x) (split y) (split z) x.1.0 y.1.0 z.1.0)
          ∙ join-mul (split x) (mul_e (split y) (split z)) ∙ ap (λ t. mul P (suc i) x.0 t) (join-mul (split y) (split z)));
      idl = λ x. Nf-path (suc i) _ _ (sym (join-mul (0, (level i).one) (split x)) ∙ ap join (cyclic-idl E (split x) x.1.0));
      idr = λ x. Nf-path (suc i) _ _ (sym (join-mul (split x) (0, (level i).one)) ∙ ap join (cyclic-idr E (split x) x.1.0));
    }
