-- A generator that commutes with every generator up to i: the known test for generator i cannot fail where it takes part.
--
--   group_below             level i as a group, where the test passes below i
--   commutes               such a generator commutes with every form of level i
--   fixed                  and conjugation by generator i fixes it
--   central-low, central-high    its commutator relations with the generators above it and below it are kept
--   central-inner          as many conjugations as the prime of generator i are conjugation by its power word
use mathlib.Core.Path.{◌≡◌, sym, ◌∙◌, ap, ap₂}
use mathlib.Core.Bool.{true}
use Prim.Native.Nat.{ℕ, suc, ◌≤◌, ◌<◌}
use native.Mathlib.Omega.{arith}
use Rattle.definitions.specs.Lists.{iter}
use Rattle.definitions.specs.Presentation.{NF, trivial, value}
use Rattle.definitions.specs.Consistency.{mul, conj, forms, generator, image, level_test}
use Rattle.numbers.proofs.Bools.{compared}
use Rattle.numbers.proofs.Lists.{iter-fix}
use Rattle.group.specs.Context.{Context, Nf}
use Rattle.group.proofs.Values.{value-trivial}
use Rattle.group.proofs.Level.{level, conj_nf, u_nf, gen_nf}
use Rattle.group.proofs.Group.{image_nf, Group, group}
use Rattle.group.proofs.Commutative.{with-generators}
use Rattle.group.proofs.Tests.{tested_below, commutator-raw, inner-raw}

pub group_below : (C : Context) (i : ℕ) → ((j : ℕ) → j < i → level_test C.P j ≡ true) → Group C i
unfolding tested_below
group_below C i t = group (tested_below C i t) i (omega arith)

module _ (C : Context) (i c : ℕ) (l : c < i) (G : Group C i)
    (below : (k : ℕ) → k < c → C.P.w k c ≡ trivial (suc k)) (above : (j : ℕ) → c < j → j ≤ i → C.P.w c j ≡ trivial (suc c)) where
  infixl 70 ◌*◌
  open level C i use {mul as ◌*◌, one}

  abbrev g : Nf C i
  g = gen_nf C i c

  -- a value over any elements, of an empty word
  empty-value : (h : ℕ → Nf C i) (k : ℕ) (x : NF k) → x ≡ trivial k → value (level C i) h k x ≡ one
  empty-value h k x e = ap (value (level C i) h k) e ∙ value-trivial G.laws h k

  pub commutes : (x : Nf C i) → (level C i).mul (gen_nf C i c) x ≡ (level C i).mul x (gen_nf C i c)
  commutes = with-generators C i G g (λ k a. compared k c
      (λ b. sym (G.satisfies.commutators k c b l ∙ ap (λ t. g * (gen_nf C i k * t)) (empty-value (gen_nf C i) (suc k) _ (below k b))
      ∙ ap (λ t. g * t) (G.laws.idr _)))
      (λ e. ap₂ (λ s t. gen_nf C i s * gen_nf C i t) (sym e) e)
      (λ d. G.satisfies.commutators c k d a ∙ ap (λ t. gen_nf C i k * (g * t)) (empty-value (gen_nf C i) (suc c) _ (above k d (omega arith)))
      ∙ ap (λ t. gen_nf C i k * t) (G.laws.idr _)))

  pub fixed : image_nf C i i c ≡ gen_nf C i c
  fixed = G.conj_gen i (omega arith) c l ∙ ap (λ t. g * t) (empty-value (gen_nf C i) (suc c) _ (above i l (omega arith))) ∙ G.laws.idr g

  pub central-low : (j : ℕ) → c < j → j < i
      → mul C.P i (image C.P i c) (image C.P i j)
      ≡ mul C.P i (image C.P i j) (mul C.P i (image C.P i c) (value (forms C.P i) (image C.P i) (suc c) (C.P.w c j)))
  central-low j a b = commutator-raw C i c j (ap (λ t. t * image_nf C i i j) fixed ∙ commutes (image_nf C i i j)
      ∙ ap (λ t. image_nf C i i j * t) (sym (ap₂ (◌*◌) fixed (empty-value (image_nf C i i) (suc c) _ (above j a (omega arith))) ∙ G.laws.idr g)))

  pub central-high : (k : ℕ) → k < c
      → mul C.P i (image C.P i k) (image C.P i c)
      ≡ mul C.P i (image C.P i c) (mul C.P i (image C.P i k) (value (forms C.P i) (image C.P i) (suc k) (C.P.w k c)))
  central-high k a = commutator-raw C i k c (ap (λ t. image_nf C i i k * t) fixed ∙ sym (commutes (image_nf C i i k))
      ∙ ap₂ (◌*◌) (sym fixed) (sym (ap (λ t. image_nf C i i k * t) (empty-value (image_nf C i i) (suc k) _ (below k a)) ∙ G.laws.idr _)))

  pub central-inner : mul C.P i (C.P.u i) (iter (conj C.P i i) (C.P.p i) (generator i c)) ≡ mul C.P i (generator i c) (C.P.u i)
  central-inner = inner-raw C i c (ap (λ t. u_nf C i * t) (iter-fix (conj_nf C i i) g fixed (C.P.p i)) ∙ sym (commutes (u_nf C i)))
