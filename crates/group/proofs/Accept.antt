-- ACCEPT: the known test passes exactly if the presentation is consistent.
--
--   test-consistent       words are evaluated in the group of normal forms; a step keeps the value
--   consistent-test       both sides of each tested equation are words of one class, hence equal
--   tested                a context whose test passes, with all levels up to n
--   accepts               (test P ≡ true) ↔ Consistent P, in any context
--   decide                consistency is decided
use mathlib.Core.Path.{◌≡◌, refl, sym, ◌∙◌, ap, ap₂, subst}
use mathlib.Core.Bool.{true, Bool-discrete, So-prop}
use mathlib.Core.Logic.{◌↔◌, ∥∥₁_elim, by_cases}
use mathlib.Core.List.{[], ◌∷◌, ◌++◌}
use Prim.Native.Nat.{ℕ, zero, suc, ◌≤◌, ◌<◌}
use native.Mathlib.Omega.{arith}
use native.Mathlib.Decide.{dec_lt, map_dec}
use lib.ListN.{replicate}
use Rattle.definitions.specs.Lists.{iter}
use Rattle.definitions.specs.Presentation.{NF, Presentation, power, value}
use Rattle.definitions.specs.Consistency.{gen, inv, Word, word, Sides, power_relation, commutator_relation, gen_inv, inv_gen, forth, back, Chain, done}
use Rattle.definitions.specs.Consistency.{link, Consistent, same_form, level_test, test}
use Rattle.numbers.proofs.Lists.{below_suc, all_below-elim, all_below-intro}
use Rattle.group.specs.Models.{Hom}
use Rattle.group.specs.Context.{Context, Nf}
use Rattle.group.proofs.Values.{power_zero, power-suc, power-one, power-past, iter-past, power-hom, value-suc, value-trivial, value-hom, value-ext}
use Rattle.group.proofs.Clauses.{same_form-eq, eq-same_form}
use Rattle.group.proofs.Sound.{Valued, sound}
use Rattle.group.proofs.Level.{Nf-path, level, conj_nf, u_nf, gen_nf, low, top, gen-low, gen-top}
use Rattle.group.proofs.Group.{image_nf, Test, TestedContext, group, Group}
use Rattle.group.proofs.Order.{inverse, inverse_left, inverse-right, undo-left}
use Rattle.group.proofs.Free.{Class, classes, classes-laws, classes-satisfy, gen_class, inv_class, gen-inv-class, inv-gen-class, class-value, class-joined}
use Rattle.group.proofs.Free.{free}
use Rattle.group.proofs.Tests.{holds_test, tested_below}

pub test-level : (P : Presentation) → test P ≡ true → (i : ℕ) → i < P.n → level_test P i ≡ true
unfolding test
test-level P t = all_below-elim P.n (level_test P) t

unfoldable pub tested : (C : Context) → test C.P ≡ true → TestedContext
tested C t = tested_below C C.P.n (test-level C.P t)

-- ---- The test gives consistency

module _ (C : Context) (t : test C.P ≡ true) where
  open C use {P}

  abbrev n : ℕ
  n = P.n

  infixl 70 ◌*◌
  open level C C.P.n use {mul as ◌*◌, one}

  T : TestedContext
  T = tested C t

  G : Group C n
  unfolding tested_below tested T
  G = group T n (omega arith)

  evaluate : Word → Nf C n
  evaluate [] = one
  evaluate (gen k ∷ w) = gen_nf C n k * evaluate w
  evaluate (inv k ∷ w) = inverse C n (gen_nf C n k) * evaluate w

  evaluate-nil : evaluate [] ≡ one
  unfolding evaluate
  evaluate-nil = refl

  evaluate-gen : (k : ℕ) (w : Word) → evaluate (gen k ∷ w) ≡ gen_nf C n k * evaluate w
  unfolding evaluate
  evaluate-gen k w = refl

  evaluate-inv : (k : ℕ) (w : Word) → evaluate (inv k ∷ w) ≡ inverse C n (gen_nf C n k) * evaluate w
  unfolding evaluate
  evaluate-inv k w = refl

  evaluate-append : (a b : Word) → evaluate (a ++ b) ≡ evaluate a * evaluate b
  unfolding evaluate
  evaluate-append [] b = sym (G.laws.idl _)
  evaluate-append (gen k ∷ a) b = ap (λ s. gen_nf C n k * s) (evaluate-append a b) ∙ sym (G.laws.assoc _ _ _)
  evaluate-append (inv k ∷ a) b = ap (λ s. inverse C n (gen_nf C n k) * s) (evaluate-append a b) ∙ sym (G.laws.assoc _ _ _)

  evaluate-power : (j m : ℕ) → evaluate (replicate m (gen j)) ≡ power (level C n) (gen_nf C n j) m
  unfolding evaluate
  evaluate-power j zero = sym (power_zero (level C n) _)
  evaluate-power j (suc m) = ap (λ s. gen_nf C n j * s) (evaluate-power j m) ∙ sym (power-suc (level C n) _ m)

  evaluate-word : (i : ℕ) (x : NF i) → evaluate (word i x) ≡ value (level C n) (gen_nf C n) i x
  unfolding evaluate word value
  evaluate-word zero x = refl
  evaluate-word (suc i) x = evaluate-append (replicate x.0 (gen i)) (word i x.1) ∙ ap₂ (◌*◌) (evaluate-power i x.0) (evaluate-word i x.1)

  evaluate-sides : (l r : Word) → Sides P l r → evaluate l ≡ evaluate r
  unfolding T tested tested_below
  evaluate-sides l r (power_relation j h) = evaluate-power j _ ∙ G.satisfies.powers j h ∙ sym (evaluate-word j _)
  evaluate-sides l r (commutator_relation k j a b) =
      simp (evaluate-gen, evaluate-inv, evaluate-nil, G.laws.idr, G.satisfies.commutators k j a b, undo-left T n (omega arith))
      (sym (evaluate-word (suc k) _))
  evaluate-sides l r (gen_inv k h) = simp (evaluate-gen, evaluate-inv, evaluate-nil, G.laws.idr, inverse-right T n (omega arith))
  evaluate-sides l r (inv_gen k h) = simp (evaluate-gen, evaluate-inv, evaluate-nil, G.laws.idr, inverse_left T n (omega arith))

  evaluate-within : (a b l r : Word) → evaluate l ≡ evaluate r → evaluate (a ++ l ++ b) ≡ evaluate (a ++ r ++ b)
  evaluate-within a b l r q = simp (evaluate-append, q)

  evaluate-chain : {a b : Word} → Chain P a b → evaluate a ≡ evaluate b
  evaluate-chain (done a) = refl
  evaluate-chain (link a b c (forth x y l r s) q) = evaluate-within x y l r (evaluate-sides l r s) ∙ evaluate-chain q
  evaluate-chain (link a b c (back x y l r s) q) = evaluate-within x y r l (sym (evaluate-sides l r s)) ∙ evaluate-chain q

  pub test-consistent : Consistent C.P
  unfolding Consistent
  test-consistent x y a b q = ap (λ s. s.0) (sym (G.gen_value (x, a)) ∙ sym (evaluate-word n x) ∙ evaluate-chain q ∙ evaluate-word n y ∙ G.gen_value (y, b))

-- ---- Consistency gives the test

module _ (C : Context) (c : Consistent C.P) where
  open C use {P}

  abbrev n' : ℕ
  n' = P.n

  infixl 70 ◌⋆◌
  open classes C.P use {mul as ◌⋆◌}
  open classes-laws C.P use {assoc, idl, idr}

  abbrev h : ℕ → Class P
  h = gen_class P

  S : (i : ℕ) → i ≤ n' → Valued (free P) i
  S = sound (free P)

  -- the class of a valid form
  ψ : (i : ℕ) → Nf C i → Class P
  ψ i x = value (classes P) h i x.0

  Injective : ℕ → Type 0
  Injective i = (x y : Nf C i) → ψ i x ≡ ψ i y → x ≡ y

  injective-n : Injective n'
  unfolding Injective ψ Consistent
  injective-n x y q = Nf-path C n' x y (same_form-eq n' x.0 y.0
      (∥∥₁_elim (class-joined P (word n' x.0) (word n' y.0) (sym (class-value P n' x.0) ∙ q ∙ class-value P n' y.0)) (So-prop (same_form n' x.0 y.0))
      (λ ch. eq-same_form n' x.0 y.0 (c x.0 y.0 x.1 y.1 ch))))

  ψ-low : (i : ℕ) (x : Nf C i) → ψ (suc i) (low C i x) ≡ ψ i x
  unfolding ψ low
  ψ-low i x = value-suc (classes P) h i _ ∙ simp (power_zero, idl)

  injective-low : (i : ℕ) → Injective (suc i) → Injective i
  unfolding Injective low
  injective-low i j x y q = Nf-path C i x y (ap (λ s. s.0.1) (j (low C i x) (low C i y) (ψ-low i x ∙ q ∙ sym (ψ-low i y))))

  injective-down : (m i : ℕ) → Injective m → i ≤ m → Injective i
  injective-down zero i j l = let q : 0 ≡ i = omega arith in subst Injective q j
  injective-down (suc m) i j l =
      by_cases (dec_lt i (suc m)) (λ a. injective-down m i (injective-low m j) (omega arith)) (λ a. let q : suc m ≡ i = omega arith in subst Injective q j)

  ψ-top : (i : ℕ) → ψ (suc i) (top C i) ≡ h i
  unfolding ψ top
  ψ-top i = value-suc (classes P) h i _ ∙ ap₂ (◌⋆◌) (power-one (classes-laws P) (h i)) (value-trivial (classes-laws P) h i) ∙ idr _

  ψ-gen : (i k : ℕ) → k < i → ψ i (gen_nf C i k) ≡ h k
  ψ-gen zero k l = absurd (omega arith)
  ψ-gen (suc i) k l = below_suc i (λ k. ψ (suc i) (gen_nf C (suc i) k) ≡ h k)
      (λ k a. ap (ψ (suc i)) (gen-low C i k a) ∙ ψ-low i _ ∙ ψ-gen i k a) (ap (ψ (suc i)) (gen-top C i) ∙ ψ-top i) k l

  module _ (i : ℕ) (l : i < n') where
    -- conjugation by generator i among the classes
    unfoldable χ : Class P → Class P
    χ q = inv_class P i ⋆ (q ⋆ h i)

    χ-hom : Hom (classes P) (classes P) χ
    unfolding χ
    χ-hom = record {
      on_one = simp (χ, idl, inv-gen-class P i l);
      on_mul = λ x y. simp (χ, assoc) (ap (λ t. inv_class P i ⋆ (x ⋆ t)) (sym (idl _) ∙ ap (λ t. t ⋆ (y ⋆ h i)) (sym (gen-inv-class P i l)) ∙ assoc _ _ _));
    }

    -- what the generator carries to q is the conjugate of q
    χ-unique : (q r : Class P) → h i ⋆ r ≡ q ⋆ h i → r ≡ χ q
    unfolding χ
    χ-unique q r a = sym (idl r) ∙ ap (λ t. t ⋆ r) (sym (inv-gen-class P i l)) ∙ assoc _ _ _ ∙ ap (λ t. inv_class P i ⋆ t) a

    ψ-past : (x : Nf C i) → h i ⋆ ψ i (conj_nf C i i x) ≡ ψ i x ⋆ h i
    unfolding ψ conj_nf free
    ψ-past x = (S i (omega arith)).conj_value i (omega arith) l x.0

    ψ-image : (k : ℕ) → k < i → ψ i (image_nf C i i k) ≡ χ (h k)
    ψ-image k a = χ-unique _ _ (ψ-past _) ∙ ap χ (ψ-gen i k a)

    H : Hom (level C i) (classes P) (ψ i)
    unfolding ψ level free
    H = record { on_one = value-trivial (classes-laws P) h i; on_mul = λ x y. (S i (omega arith)).mul_value x.0 y.0 }

    -- a value over the images, under ψ
    ψ-value : (k : ℕ) → k ≤ i → (x : NF k) → ψ i (value (level C i) (image_nf C i i) k x) ≡ χ (value (classes P) h k x)
    ψ-value k a x = value-hom H (image_nf C i i) k x ∙ value-ext (classes P) (λ m. ψ i (image_nf C i i m)) (λ m. χ (h m)) k (λ m b. ψ-image m (omega arith)) x
        ∙ sym (value-hom χ-hom h k x)

    injective : Injective i
    injective = injective-down n' i injective-n (omega arith)

    ψ-u : ψ i (u_nf C i) ≡ power (classes P) (h i) (P.p i)
    unfolding ψ u_nf
    ψ-u = sym ((classes-satisfy P).powers i l)

    consistent-level : Test C i
    unfolding Injective
    consistent-level = record {
      keeps = record {
        powers = λ k a. injective _ _ (power-hom H _ _ ∙ ap (λ s. power (classes P) s (P.p k)) (ψ-image k a) ∙ sym (power-hom χ-hom _ _)
            ∙ ap χ ((classes-satisfy P).powers k (omega arith)) ∙ sym (ψ-value k (omega arith) _));
        commutators = λ k j a b. injective _ _ (H.on_mul _ _ ∙ ap₂ (◌⋆◌) (ψ-image k (omega arith)) (ψ-image j b) ∙ sym (χ-hom.on_mul _ _)
            ∙ ap χ ((classes-satisfy P).commutators k j a (omega arith)) ∙ χ-hom.on_mul _ _ ∙ ap (λ s. χ (h j) ⋆ s) (χ-hom.on_mul _ _)
            ∙ sym (H.on_mul _ _ ∙ ap₂ (◌⋆◌) (ψ-image j b) (H.on_mul _ _ ∙ ap₂ (◌⋆◌) (ψ-image k (omega arith)) (ψ-value (suc k) (omega arith) _))));
      };
      fixes = injective _ _ (χ-unique _ _ (ψ-past _) ∙ ap χ ψ-u ∙ sym (χ-unique _ _ (power-past (classes-laws P) (h i) (h i) (h i) refl (P.p i))) ∙ sym ψ-u);
      inner = λ k a. injective _ _ (H.on_mul _ _ ∙ ap (λ s. s ⋆ ψ i (iter (conj_nf C i i) (P.p i) (gen_nf C i k))) ψ-u
          ∙ iter-past (classes-laws P) (ψ i) (h i) (conj_nf C i i) ψ-past (P.p i) (gen_nf C i k) ∙ ap (λ s. ψ i (gen_nf C i k) ⋆ s) (sym ψ-u) ∙ sym (H.on_mul _ _));
    }

  pub consistent-test : test C.P ≡ true
  unfolding test
  consistent-test = all_below-intro n' (level_test P) (λ i l. holds_test C i (consistent-level i l))

-- ---- Both

pub accepts : (C : Context) → (test C.P ≡ true) ↔ Consistent C.P
accepts C = (test-consistent C, consistent-test C)

unfoldable pub decide : (C : Context) → Dec (Consistent C.P)
decide C = map_dec (accepts C).0 (accepts C).1 (Bool-discrete (test C.P) true)
