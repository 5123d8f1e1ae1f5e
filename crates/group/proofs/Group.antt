-- GROUP: where the known test passes on every level below, the valid normal forms of a level are a monoid in which the
-- relations hold. One induction on the level carries the facts of `Group`; its step is the cyclic extension.
--
--   image_nf C i j k      the image of generator k under conjugation by generator j, on level i
--   Test C i             the known test for generator i, as equations of valid forms
--   Group C i            what is known of level i
--   TestedContext               a context in which the test passes below n
--   group                every level up to n is a group: laws, values, conjugation, relations
--   model                level i as a model of the presentation, with its own generators
--   conj-mul             conjugation by the next generator keeps products
--   low_top              the next generator carries a lower form to its conjugate
use mathlib.Core.Path.{◌≡◌, refl, sym, ◌∙◌, ap, ap₂, subst}
use Prim.Native.Nat.{ℕ, zero, suc, ◌+◌, ◌-◌, ◌≤◌, ◌<◌}
use native.Mathlib.Nat.{add-zero}
use native.Mathlib.Omega.{arith}
use Rattle.definitions.specs.Lists.{iter}
use Rattle.definitions.specs.Presentation.{NF, trivial, power, value}
use Rattle.definitions.specs.Consistency.{mul, conj}
use Rattle.numbers.proofs.Lists.{below_suc, iter-zero, iter-suc, iter-op, iter-fix}
use Rattle.group.specs.Models.{Laws, Satisfies, Model}
use Rattle.group.specs.Context.{Context, Nf}
use Rattle.group.proofs.Values.{power_zero, power-suc, power-one, power-hom, value-suc, value-ind}
use Rattle.group.proofs.Clauses.{mul_step-below, mul-suc}
use Rattle.group.proofs.Sound.{sound}
use Rattle.group.proofs.Cyclic.{Cyclic}
use Rattle.group.proofs.Units.{conj-trivial, mul-top-below, mul-top-over, power-generator}
use Rattle.group.proofs.Level.{forget, Nf-path, trivial-valid, level, conj_nf, u_nf, w_nf, gen_nf, low, top, low_hom, gen-low, gen-top, low_value}
use Rattle.group.proofs.Level.{conj-clause, laws-suc}

module _ (C : Context) where
  open C use {P, two}

  abbrev pub image_nf : (i j k : ℕ) → Nf C i
  image_nf i j k = conj_nf C i j (gen_nf C i k)

  pub record Test (i : ℕ) : Type 0 where
    pub keeps : Satisfies C.P (level C i) (image_nf i i) i
    pub fixes : conj_nf C i i (u_nf C i) ≡ u_nf C i
    pub inner : (k : ℕ) → k < i → (level C i).mul (u_nf C i) (iter (conj_nf C i i) (C.P.p i) (gen_nf C i k)) ≡ (level C i).mul (gen_nf C i k) (u_nf C i)

  pub record Group (i : ℕ) : Type 0 where
    pub laws : Laws (level C i)
    pub gen_value : (x : Nf C i) → value (level C i) (gen_nf C i) i x.0 ≡ x
    pub conj_value : (j : ℕ) → i ≤ j → (x : Nf C i) → value (level C i) (image_nf i j) i x.0 ≡ conj_nf C i j x
    pub conj_gen : (j : ℕ) → i ≤ j → (k : ℕ) → k < i → image_nf i j k ≡ (level C i).mul (gen_nf C i k) (value (level C i) (gen_nf C i) (suc k) (C.P.w k j))
    pub satisfies : Satisfies C.P (level C i) (gen_nf C i) i

  pub conj_one : (i j : ℕ) → conj_nf C i j (level C i).one ≡ (level C i).one
  unfolding level conj_nf
  conj_one i j = Nf-path C i _ _ (conj-trivial C i j)

  module _ (i : ℕ) (G : Group i) (T : Test i) where
    infixl 70 ◌*◌
    open level C i use {mul as ◌*◌, one}

    abbrev f : Nf C i → Nf C i
    f = conj_nf C i i

    abbrev u : Nf C i
    u = u_nf C i

    abbrev p : ℕ
    p = P.p i

    images : Model P i (Nf C i)
    images = record { product = level C i; laws = G.laws; h = image_nf i i; satisfies = T.keeps }

    pub conj-mul : (x y : Nf C i) → conj_nf C i i ((level C i).mul x y) ≡ (level C i).mul (conj_nf C i i x) (conj_nf C i i y)
    unfolding level images
    conj-mul x y = sym (G.conj_value i (omega arith) (x * y)) ∙ (sound images i (omega arith)).mul_value x.0 y.0
        ∙ ap₂ (◌*◌) (G.conj_value i (omega arith) x) (G.conj_value i (omega arith) y)

    -- f done p times is conjugation by u on the generators, hence everywhere
    pub cyclic : Cyclic (level C i) (C.P.p i) (conj_nf C i i) (u_nf C i)
    cyclic = record {
      laws = G.laws;
      positive = omega (arith, two i);
      f_one = conj_one i i;
      f_mul = conj-mul;
      f_u = T.fixes;
      inner = λ x. subst (λ x. u * iter f p x ≡ x * u) (G.gen_value x) (value-ind (level C i) (λ x. u * iter f p x ≡ x * u)
          (simp (iter-fix f one (conj_one i i), G.laws.idl, G.laws.idr))
          (λ x y a b. simp (iter-op f (◌*◌) conj-mul, G.laws.assoc)
          (sym (G.laws.assoc _ _ _) ∙ ap (λ t. t * iter f p y) a ∙ G.laws.assoc _ _ _ ∙ ap (λ t. x * t) b))
          (gen_nf C i) i T.inner x.0);
    }

    next : Laws (level C (suc i))
    next = laws-suc C i cyclic

    infixl 70 ◌⊛◌
    open level C (suc i) use {mul as ◌⊛◌}

    abbrev rest : Nf C (suc i) → Nf C i
    rest x = (x.0.1, x.1.1)

    -- ---- Powers of the generator on top

    power-top : (a : ℕ) → a < p → (power (level C (suc i)) (top C i) a).0 ≡ (a, trivial i)
    unfolding top
    power-top a l = power-hom (forget C (suc i)) (top C i) a ∙ power-generator C i a l

    power-top-p : power (level C (suc i)) (top C i) p ≡ low C i u
    unfolding level top low u_nf
    power-top-p =
        let q : p ≡ suc (p - 1) = omega (arith, two i) in
        let z : 1 + (p - 1) - p ≡ 0 = omega (arith, two i) in
        Nf-path C (suc i) _ _ (ap (λ n. (power (level C (suc i)) (top C i) n).0) q ∙ ap (λ t. t.0) (power-suc (level C (suc i)) (top C i) (p - 1))
        ∙ ap (mul P (suc i) (1, trivial i)) (power-top (p - 1) (omega (arith, two i))) ∙ mul-top-over C i 1 (p - 1) (trivial i) (trivial-valid C i) (omega (arith, two i))
        ∙ ap₂ (λ s t. (s, t.0)) z (G.laws.idr u))

    -- ---- Values and conjugation one level up

    value-climbs : (h : ℕ → Nf C i) (h' : ℕ → Nf C (suc i)) → ((m : ℕ) → m < i → h' m ≡ low C i (h m)) → (g : Nf C (suc i)) → h' i ≡ g → (x : NF (suc i))
        → value (level C (suc i)) h' (suc i) x ≡ power (level C (suc i)) g x.0 ⊛ low C i (value (level C i) h i x.1)
    value-climbs h h' q g r x = value-suc (level C (suc i)) h' i x ∙ ap₂ (λ s t. power (level C (suc i)) s x.0 ⊛ t) r (low_value C i h h' i q x.1)

    gen-value-suc : (x : Nf C (suc i)) → value (level C (suc i)) (gen_nf C (suc i)) (suc i) x.0 ≡ x
    unfolding level low
    gen-value-suc x = value-climbs (gen_nf C i) (gen_nf C (suc i)) (λ m l. gen-low C i m l) (top C i) (gen-top C i) x.0
        ∙ ap (λ t. power (level C (suc i)) (top C i) x.0.0 ⊛ low C i t) (G.gen_value (rest x))
        ∙ Nf-path C (suc i) _ _ (ap (λ t. mul P (suc i) t (0, x.0.1)) (power-top x.0.0 x.1.0)
        ∙ mul-top-below C i x.0.0 0 x.0.1 x.1.1 (omega (arith, x.1.0)) ∙ ap (λ t. (t, x.0.1)) (add-zero x.0.0))

    pub conj_low : (j : ℕ) → suc i ≤ j → (x : Nf C i) → conj_nf C (suc i) j (low C i x) ≡ low C i (conj_nf C i j x)
    unfolding low
    conj_low j l x = conj-clause C i j (low C i x) ∙ simp (power_zero, next.idl)

    image-low : (j : ℕ) → suc i ≤ j → (m : ℕ) → m < i → image_nf (suc i) j m ≡ low C i (image_nf i j m)
    image-low j l m h = ap (conj_nf C (suc i) j) (gen-low C i m h) ∙ conj_low j l (gen_nf C i m)

    image-top : (j : ℕ) → suc i ≤ j → image_nf (suc i) j i ≡ top C i ⊛ w_nf C i j
    unfolding top level
    image-top j l = ap (conj_nf C (suc i) j) (gen-top C i) ∙ conj-clause C i j (top C i)
        ∙ ap₂ (◌⊛◌) (power-one next _) (ap (low C i) (conj_one i j) ∙ (low_hom C i).on_one) ∙ next.idr _

    conj-value-suc : (j : ℕ) → suc i ≤ j → (x : Nf C (suc i)) → value (level C (suc i)) (image_nf (suc i) j) (suc i) x.0 ≡ conj_nf C (suc i) j x
    conj-value-suc j l x = value-climbs (image_nf i j) (image_nf (suc i) j) (image-low j l) (top C i ⊛ w_nf C i j) (image-top j l) x.0
        ∙ ap (λ t. power (level C (suc i)) (top C i ⊛ w_nf C i j) x.0.0 ⊛ low C i t) (G.conj_value j (omega arith) (rest x)) ∙ sym (conj-clause C i j x)

    gen-climbs : (k : ℕ) → k ≤ i → (x : NF k) → low C i (value (level C i) (gen_nf C i) k x) ≡ value (level C (suc i)) (gen_nf C (suc i)) k x
    gen-climbs k l x = sym (low_value C i (gen_nf C i) (gen_nf C (suc i)) k (λ m h. gen-low C i m (omega arith)) x)

    commutator-climbs : (j k : ℕ) → k < i → low C i (gen_nf C i k * value (level C i) (gen_nf C i) (suc k) (P.w k j))
        ≡ gen_nf C (suc i) k ⊛ value (level C (suc i)) (gen_nf C (suc i)) (suc k) (P.w k j)
    commutator-climbs j k a = (low_hom C i).on_mul _ _ ∙ ap₂ (◌⊛◌) (sym (gen-low C i k a)) (gen-climbs (suc k) a (P.w k j))

    conj-gen-suc : (j : ℕ) → suc i ≤ j → (k : ℕ) → k < suc i → image_nf (suc i) j k ≡ gen_nf C (suc i) k ⊛ value (level C (suc i)) (gen_nf C (suc i)) (suc k) (P.w k j)
    unfolding w_nf
    conj-gen-suc j l = below_suc i (λ k. image_nf (suc i) j k ≡ gen_nf C (suc i) k ⊛ value (level C (suc i)) (gen_nf C (suc i)) (suc k) (P.w k j))
        (λ k h. image-low j l k h ∙ ap (low C i) (G.conj_gen j (omega arith) k h) ∙ commutator-climbs j k h)
        (image-top j l ∙ ap₂ (◌⊛◌) (sym (gen-top C i)) (sym (gen-value-suc (w_nf C i j))))

    -- ---- The relations one level up

    pub low_top : (x : Nf C i) → (level C (suc i)).mul (low C i x) (top C i) ≡ (level C (suc i)).mul (top C i) (low C i (conj_nf C i i x))
    unfolding level low top conj_nf
    low_top x = Nf-path C (suc i) _ _ (mul-suc P i _ _ ∙ mul_step-below p (mul P i) (conj P i i) (P.u i) (0, x.0) (1, trivial i) (two i)
        ∙ ap (λ t. (1, mul P i t (trivial i))) (iter-suc (conj P i i) 0 x.0 ∙ iter-zero (conj P i i) _) ∙ ap (λ t. (1, t.0)) (G.laws.idr (f x))
        ∙ sym (mul-top-below C i 1 0 (f x).0 (f x).1 (omega (arith, two i))))

    satisfies-suc : Satisfies P (level C (suc i)) (gen_nf C (suc i)) (suc i)
    unfolding u_nf
    satisfies-suc = record {
      powers = below_suc i (λ j. power (level C (suc i)) (gen_nf C (suc i) j) (P.p j) ≡ value (level C (suc i)) (gen_nf C (suc i)) j (P.u j))
          (λ j h. ap (λ g. power (level C (suc i)) g (P.p j)) (gen-low C i j h) ∙ sym (power-hom (low_hom C i) (gen_nf C i j) (P.p j))
          ∙ ap (low C i) (G.satisfies.powers j h) ∙ gen-climbs j (omega arith) (P.u j))
          (ap (λ g. power (level C (suc i)) g (P.p i)) (gen-top C i) ∙ power-top-p ∙ ap (low C i) (sym (G.gen_value u))
          ∙ gen-climbs i (omega arith) (P.u i));
      commutators = λ k j a b. below_suc i
          (λ j. k < j → gen_nf C (suc i) k ⊛ gen_nf C (suc i) j
          ≡ gen_nf C (suc i) j ⊛ (gen_nf C (suc i) k ⊛ value (level C (suc i)) (gen_nf C (suc i)) (suc k) (P.w k j)))
          (λ j h a. ap₂ (◌⊛◌) (gen-low C i k (omega arith)) (gen-low C i j h) ∙ sym ((low_hom C i).on_mul _ _) ∙ ap (low C i) (G.satisfies.commutators k j a h)
          ∙ (low_hom C i).on_mul _ _ ∙ ap₂ (◌⊛◌) (sym (gen-low C i j h)) (commutator-climbs j k (omega arith)))
          (λ a. ap₂ (◌⊛◌) (gen-low C i k a) (gen-top C i) ∙ low_top (gen_nf C i k)
          ∙ ap₂ (λ s t. s ⊛ low C i t) (sym (gen-top C i)) (G.conj_gen i (omega arith) k a) ∙ ap (λ t. gen_nf C (suc i) i ⊛ t) (commutator-climbs i k a))
          j b a;
    }

    group-suc : Group (suc i)
    group-suc = record { laws = next; gen_value = gen-value-suc; conj_value = conj-value-suc; conj_gen = conj-gen-suc; satisfies = satisfies-suc }

  climb : (i : ℕ) → ((k : ℕ) → k < i → Test k) → Group i
  climb zero t =
      let all : (x y : Nf C 0) → x ≡ y = λ x y. Nf-path C 0 x y refl in
      record {
        laws = record { assoc = λ x y z. all _ _; idl = λ x. all _ _; idr = λ x. all _ _ };
        gen_value = λ x. all _ _;
        conj_value = λ j l x. all _ _;
        conj_gen = λ j l k h. all _ _;
        satisfies = record { powers = λ j l. all _ _; commutators = λ k j a b. all _ _ };
      }
  climb (suc i) t = group-suc i (climb i (λ k l. t k (omega arith))) (t i (omega arith))

-- ---- All levels

pub record TestedContext : Type 0 where
  pub context : Context
  pub n : ℕ
  pub tests : (i : ℕ) → i < n → Test context i

module _ (T : TestedContext) where
  pub group : (i : ℕ) → i ≤ T.n → Group T.context i
  group i l = climb T.context i (λ k h. T.tests k (omega arith))

  unfoldable pub model : (i : ℕ) → i ≤ T.n → Model T.context.P i (Nf T.context i)
  model i l = record { product = level T.context i; laws = (group i l).laws; h = gen_nf T.context i; satisfies = (group i l).satisfies }
