-- A level is abelian exactly if the commutator words of its generators are empty.
--
--   with-generators                   what commutes with every generator commutes with every form
--   empty-abelian, abelian-empty      where the words are empty, any two forms commute; and the other way
use mathlib.Core.Path.{◌≡◌, sym, ◌∙◌, ap, ap₂, subst}
use Prim.Native.Nat.{ℕ, suc, ◌≤◌, ◌<◌}
use native.Mathlib.Omega.{arith}
use Rattle.definitions.specs.Presentation.{value}
use Rattle.numbers.proofs.Bools.{compared}
use Rattle.group.specs.Models.{Abelian, WordsEmpty}
use Rattle.group.specs.Context.{Context, Nf}
use Rattle.group.proofs.Values.{value-trivial, value-ind}
use Rattle.group.proofs.Level.{level, w_nf, gen_nf}
use Rattle.group.proofs.Group.{Group, TestedContext, group}
use Rattle.group.proofs.Order.{cancel_left}
use Rattle.group.proofs.Conjugation.{embed, embed-inj, embed-hom}

module _ (C : Context) (i : ℕ) (G : Group C i) where
  infixl 70 ◌*◌
  open level C i use {mul as ◌*◌, one}

  pub with-generators : (z : Nf C i) → ((k : ℕ) → k < i → (level C i).mul z (gen_nf C i k) ≡ (level C i).mul (gen_nf C i k) z)
      → (x : Nf C i) → (level C i).mul z x ≡ (level C i).mul x z
  with-generators z h x = subst (λ y. z * y ≡ y * z) (G.gen_value x) (value-ind (level C i) (λ y. z * y ≡ y * z) (G.laws.idr z ∙ sym (G.laws.idl z))
      (λ x y a b. sym (G.laws.assoc z x y) ∙ ap (λ t. t * y) a ∙ G.laws.assoc x z y ∙ ap (λ t. x * t) b ∙ sym (G.laws.assoc x y z))
      (gen_nf C i) i h x.0)

module _ (T : TestedContext) (i : ℕ) (l : i ≤ T.n) where
  open T use {context as C}

  infixl 70 ◌*◌
  open level C i use {mul as ◌*◌, one}

  abbrev G : Group C i
  G = group T i l

  abbrev g : ℕ → Nf C i
  g = gen_nf C i

  pub empty-abelian : WordsEmpty T.context.P i → Abelian (level T.context i)
  empty-abelian empty x y = with-generators C i G x (λ k a. sym (with-generators C i G (g k)
      (λ j b. compared k j (λ c. swap k j c b) (λ e. ap₂ (λ s t. g s * g t) e (sym e)) (λ c. sym (swap j k c a))) x)) y
    where
      -- the relation of two generators whose word is empty
      swap : (k j : ℕ) → k < j → j < i → g k * g j ≡ g j * g k
      swap k j a b =
          let e : value (level C i) g (suc k) (C.P.w k j) ≡ one = ap (value (level C i) g (suc k)) (empty k j a b) ∙ value-trivial G.laws g (suc k) in
          G.satisfies.commutators k j a b ∙ ap (λ t. g j * (g k * t)) e ∙ ap (λ t. g j * t) (G.laws.idr (g k))

  pub abelian-empty : Abelian (level T.context i) → WordsEmpty T.context.P i
  unfolding embed w_nf level
  abelian-empty commutes k j a b =
      let v : Nf C i = embed C (suc k) i (w_nf C k j) in
      let e : g k * v ≡ g k * one
      = cancel_left T i l (g j) (g k * v) (g k * one)
      (sym (G.satisfies.commutators k j a b) ∙ commutes (g k) (g j) ∙ ap (λ t. g j * t) (sym (G.laws.idr (g k)))) in
      let u : v ≡ embed C (suc k) i (level C (suc k)).one
      = cancel_left T i l (g k) v one e ∙ sym (embed-hom T (suc k) i (omega arith) l).on_one in
      ap (λ (t : Nf C (suc k)). t.0) (embed-inj T (suc k) i (omega arith) l (w_nf C k j) (level C (suc k)).one u)
