-- Words of letters up to chains of steps: a monoid in which the relations hold and every generator has an inverse.
--
--   chain-trans, chain-sym, chain-both   chains one after another, backwards, and side by side
--   Class P, class P a                   words up to chains; the class of a word
--   classes P                            their product and unit
--   class-joined                         words of one class are joined by a chain
--   free                                 the classes are a model of P
--   class-value                          the value of a normal form is the class of its word
--   gen-inv-class, inv-gen-class         a generator beside its inverse is nothing
use mathlib.Core.Path.{◌≡◌, refl, sym, ◌∙◌, ap, ap₂, subst₂}
use mathlib.Core.Logic.{∥∥₁_prop, ∥∥₁_map, ∥∥₁_map₂}
use mathlib.Core.List.{[], ◌∷◌, ◌++◌, append_assoc, append-nil}
use mathlib.Core.Quot.Quotient
use mathlib.Core.Quot.{Setoid, Quotient, Quotient-set}
use Prim.Native.Nat.{ℕ, zero, suc, ◌<◌}
use native.Mathlib.Omega.{arith}
use lib.ListN.{replicate}
use Rattle.definitions.specs.Presentation.{NF, Presentation, Mul, power, value}
use Rattle.definitions.specs.Consistency.{Letter, gen, inv, Word, word, Sides, power_relation, commutator_relation, gen_inv, inv_gen, Step, forth, back, Chain}
use Rattle.definitions.specs.Consistency.{done, link}
use Rattle.group.specs.Models.{Laws, Satisfies, Model}
use Rattle.group.proofs.Values.{power_zero, power-suc}

module _ (P : Presentation) where
  -- ---- Chains

  pub chain-trans : {a b c : Word} → Chain P a b → Chain P b c → Chain P a c
  chain-trans (done a) q = q
  chain-trans (link a b c s p) q = link a b _ s (chain-trans p q)

  pub chain-sym : {a b : Word} → Chain P a b → Chain P b a
  chain-sym (done a) = done a
  chain-sym (link a b c (forth x y l r s) p) = chain-trans (chain-sym p) (link _ _ _ (back x y l r s) (done _))
  chain-sym (link a b c (back x y l r s) p) = chain-trans (chain-sym p) (link _ _ _ (forth x y l r s) (done _))

  regroup : (x y a b l : Word) → (x ++ a) ++ l ++ (b ++ y) ≡ x ++ (a ++ l ++ b) ++ y
  regroup x y a b l = simp append_assoc

  chain-within : (x y : Word) {a b : Word} → Chain P a b → Chain P (x ++ a ++ y) (x ++ b ++ y)
  chain-within x y (done a) = done _
  chain-within x y (link a b c (forth u v l r s) p) =
      link _ _ _ (subst₂ (Step P) (regroup x y u v l) (regroup x y u v r) (forth (x ++ u) (v ++ y) l r s)) (chain-within x y p)
  chain-within x y (link a b c (back u v l r s) p) =
      link _ _ _ (subst₂ (Step P) (regroup x y u v r) (regroup x y u v l) (back (x ++ u) (v ++ y) l r s)) (chain-within x y p)

  pub chain-both : {a b c d : Word} → Chain P a b → Chain P c d → Chain P (a ++ c) (b ++ d)
  chain-both {a} {b} {c} {d} p q = chain-trans (chain-within [] c p) (subst₂ (Chain P) (append-nil (b ++ c)) (append-nil (b ++ d)) (chain-within b [] q))

  chain-sides : (a b l r : Word) → Sides P l r → Chain P (a ++ l ++ b) (a ++ r ++ b)
  chain-sides a b l r s = link _ _ _ (forth a b l r s) (done _)

  -- ---- Words up to chains

  abbrev pub Joined : Setoid {0, 0} Word
  Joined = record { r = λ a b. ∥ Chain P a b ∥₁; iseqv = record { refl = λ a. ∣ done a ∣₁; symm = λ a b p. ∥∥₁_map p chain-sym; trans = λ a b c p q. ∥∥₁_map₂ p q chain-trans } }

  abbrev pub Class : Type 0
  Class = Quotient Joined

  abbrev pub class : Word → Class
  class = Quotient.mk Joined

  pub class-joined : (a b : Word) → class a ≡ class b → ∥ Chain P a b ∥₁
  class-joined a b e = Quotient.exact Joined (λ a b. ∥∥₁_prop) e

  joined-class : (a b : Word) → Chain P a b → class a ≡ class b
  joined-class a b c = Quotient.sound Joined ∣ c ∣₁

  unfoldable pub classes : Mul Class
  classes = record { mul = Quotient.lift₂ Joined Joined (Quotient-set Joined) (λ a b. class (a ++ b)) (λ a b c d p q. Quotient.sound Joined (∥∥₁_map₂ p q chain-both)); one = class [] }

  class-mul : (a b : Word) → classes.mul (class a) (class b) ≡ class (a ++ b)
  unfolding classes Quotient.lift₂
  class-mul a b = refl

  pub classes-laws : Laws classes
  unfolding classes Quotient.lift₂
  classes-laws = record {
    assoc = λ a b c. Quotient.induction_on₃ Joined Joined Joined {motive = λ p q r. classes.mul (classes.mul p q) r ≡ classes.mul p (classes.mul q r)}
        (λ p q r. Quotient-set Joined _ _) a b c (λ x y z. ap class (append_assoc x y z));
    idl = λ a. Quotient.induction_on Joined {motive = λ p. classes.mul classes.one p ≡ p} (λ p. Quotient-set Joined _ _) a (λ x. refl);
    idr = λ a. Quotient.induction_on Joined {motive = λ p. classes.mul p classes.one ≡ p} (λ p. Quotient-set Joined _ _) a (λ x. ap class (append-nil x));
  }

  -- ---- The generators and their inverses

  abbrev pub gen_class : ℕ → Class
  gen_class k = class (gen k ∷ [])

  abbrev pub inv_class : ℕ → Class
  inv_class k = class (inv k ∷ [])

  power-class : (a : Letter) (m : ℕ) → power classes (class (a ∷ [])) m ≡ class (replicate m a)
  unfolding classes
  power-class a zero = power_zero classes _
  power-class a (suc m) = power-suc classes _ m ∙ ap (classes.mul (class (a ∷ []))) (power-class a m) ∙ class-mul _ _

  pub class-value : (i : ℕ) (x : NF i) → value classes gen_class i x ≡ class (word i x)
  unfolding word value classes
  class-value zero x = refl
  class-value (suc i) x = ap₂ classes.mul (power-class (gen i) x.0) (class-value i x.1) ∙ class-mul _ _

  sides-class : (l r : Word) → Sides P l r → class l ≡ class r
  sides-class l r s = joined-class l r (subst₂ (Chain P) (append-nil l) (append-nil r) (chain-sides [] [] l r s))

  pub gen-inv-class : (k : ℕ) → k < P.n → classes.mul (gen_class k) (inv_class k) ≡ classes.one
  unfolding classes
  gen-inv-class k l = class-mul _ _ ∙ sides-class _ _ (gen_inv k l)

  pub inv-gen-class : (k : ℕ) → k < P.n → classes.mul (inv_class k) (gen_class k) ≡ classes.one
  unfolding classes
  inv-gen-class k l = class-mul _ _ ∙ sides-class _ _ (inv_gen k l)

  -- j k w = j k (k⁻¹ j⁻¹ k j) = j j⁻¹ k j = k j
  pub classes-satisfy : Satisfies P classes gen_class P.n
  classes-satisfy = record {
    powers = λ j l. power-class (gen j) (P.p j) ∙ sides-class _ _ (power_relation j l) ∙ sym (class-value j (P.u j));
    commutators = λ k j a b. sym (ap (λ t. classes.mul (gen_class j) (classes.mul (gen_class k) t))
        (class-value (suc k) (P.w k j) ∙ sym (sides-class _ _ (commutator_relation k j a b))) ∙ ap (classes.mul (gen_class j)) (class-mul _ _) ∙ class-mul _ _
        ∙ joined-class _ _ (chain-sides (gen j ∷ []) (inv j ∷ gen k ∷ gen j ∷ []) _ _ (gen_inv k (omega arith)))
        ∙ joined-class _ _ (chain-sides [] (gen k ∷ gen j ∷ []) _ _ (gen_inv j b)) ∙ sym (class-mul _ _));
  }

  unfoldable pub free : Model P P.n Class
  free = record { product = classes; laws = classes-laws; h = gen_class; satisfies = classes-satisfy }
