-- The known test as a computed test of numbers, and as equations of valid forms: they say the same.
--
--   test-holds      where level_test is true the equations hold
--   holds_test      where the equations hold level_test is true
--   commutator-raw, inner-raw    one equation of the test, of normal forms
--   tested_below     a context in which level_test is true below n
use mathlib.Core.Path.{◌≡◌, refl, sym, ◌∙◌, ap}
use mathlib.Core.Bool.{true, ◌&&◌}
use Prim.Native.Nat.{ℕ, suc, ◌<◌}
use Rattle.definitions.specs.Lists.{iter}
use Rattle.definitions.specs.Presentation.{NF, value}
use Rattle.definitions.specs.Consistency.{mul, conj, forms, generator, image, keeps_powers, keeps_commutators, fixes_power, power_is_inner, level_test}
use Rattle.numbers.proofs.Bools.{and_left, and_right, and_intro}
use Rattle.numbers.proofs.Lists.{all_below-elim, all_below-intro, iter-map}
use Rattle.group.specs.Context.{Context, Nf}
use Rattle.group.proofs.Values.{power-hom, value-hom}
use Rattle.group.proofs.Clauses.{same_form-eq, eq-same_form}
use Rattle.group.proofs.Level.{Nf-path, level, conj_nf, u_nf, gen_nf, forget}
use Rattle.group.proofs.Group.{image_nf, Test, TestedContext}

module _ (C : Context) (i : ℕ) where
  open C use {P}

  value-raw : (k : ℕ) (x : NF k) → (value (level C i) (image_nf C i i) k x).0 ≡ value (forms P i) (image P i) k x
  unfolding conj_nf gen_nf
  value-raw k x = value-hom (forget C i) (image_nf C i i) k x

  iter-raw : (x : Nf C i) (k : ℕ) → (iter (conj_nf C i i) k x).0 ≡ iter (conj P i i) k x.0
  unfolding conj_nf
  iter-raw x k = iter-map (λ x. x.0) (conj_nf C i i) (conj P i i) (λ x. refl) k x

  pub test-holds : level_test C.P i ≡ true → Test C i
  unfolding level conj_nf u_nf gen_nf level_test keeps_powers keeps_commutators fixes_power power_is_inner
  test-holds h =
      let abc = and_left (keeps_powers P i && keeps_commutators P i && fixes_power P i) (power_is_inner P i) h in
      let ab = and_left (keeps_powers P i && keeps_commutators P i) (fixes_power P i) abc in
      let powers = all_below-elim i _ (and_left (keeps_powers P i) (keeps_commutators P i) ab) in
      let commutators = all_below-elim i _ (and_right (keeps_powers P i) (keeps_commutators P i) ab) in
      let inners = all_below-elim i _ (and_right (keeps_powers P i && keeps_commutators P i && fixes_power P i) (power_is_inner P i) h) in
      record {
        keeps = record {
          powers = λ k l. Nf-path C i _ _ (power-hom (forget C i) _ _ ∙ same_form-eq i _ _ (powers k l) ∙ sym (value-raw k _));
          commutators = λ k j a b. Nf-path C i _ _ (same_form-eq i _ _ (all_below-elim j _ (commutators j b) k a)
              ∙ ap (λ t. mul P i (image P i j) (mul P i (image P i k) t)) (sym (value-raw (suc k) _)));
        };
        fixes = Nf-path C i _ _ (same_form-eq i _ _ (and_right (keeps_powers P i && keeps_commutators P i) (fixes_power P i) abc));
        inner = λ k l. Nf-path C i _ _ (ap (mul P i (P.u i)) (iter-raw _ _) ∙ same_form-eq i _ _ (inners k l));
      }

  pub commutator-raw : (k j : ℕ)
      → (level C i).mul (image_nf C i i k) (image_nf C i i j) ≡ (level C i).mul (image_nf C i i j) ((level C i).mul (image_nf C i i k) (value (level C i) (image_nf C i i) (suc k) (C.P.w k j)))
      → mul C.P i (image C.P i k) (image C.P i j) ≡ mul C.P i (image C.P i j) (mul C.P i (image C.P i k) (value (forms C.P i) (image C.P i) (suc k) (C.P.w k j)))
  unfolding level conj_nf gen_nf
  commutator-raw k j q = ap (λ x. x.0) q ∙ ap (λ t. mul P i (image P i j) (mul P i (image P i k) t)) (value-raw (suc k) _)

  pub inner-raw : (k : ℕ) → (level C i).mul (u_nf C i) (iter (conj_nf C i i) (C.P.p i) (gen_nf C i k)) ≡ (level C i).mul (gen_nf C i k) (u_nf C i)
      → mul C.P i (C.P.u i) (iter (conj C.P i i) (C.P.p i) (generator i k)) ≡ mul C.P i (generator i k) (C.P.u i)
  unfolding level u_nf gen_nf
  inner-raw k q = ap (mul P i (P.u i)) (sym (iter-raw _ _)) ∙ ap (λ x. x.0) q

  pub holds_test : Test C i → level_test C.P i ≡ true
  unfolding level conj_nf u_nf gen_nf level_test keeps_powers keeps_commutators fixes_power power_is_inner
  holds_test t = and_intro (keeps_powers P i && keeps_commutators P i && fixes_power P i) (power_is_inner P i)
      (and_intro (keeps_powers P i && keeps_commutators P i) (fixes_power P i)
      (and_intro (keeps_powers P i) (keeps_commutators P i)
      (all_below-intro i _ (λ k l. eq-same_form i _ _ (sym (power-hom (forget C i) _ _) ∙ ap (λ x. x.0) (t.keeps.powers k l) ∙ value-raw k _)))
      (all_below-intro i _ (λ j b. all_below-intro j _ (λ k a. eq-same_form i _ _ (commutator-raw k j (t.keeps.commutators k j a b))))))
      (eq-same_form i _ _ (ap (λ x. x.0) t.fixes)))
      (all_below-intro i _ (λ k l. eq-same_form i _ _ (inner-raw k (t.inner k l))))

-- the levels of a context in which the test passes below n
unfoldable pub tested_below : (C : Context) (n : ℕ) → ((i : ℕ) → i < n → level_test C.P i ≡ true) → TestedContext
tested_below C n t = record { context = C; n = n; tests = λ i l. test-holds C i (t i l) }
