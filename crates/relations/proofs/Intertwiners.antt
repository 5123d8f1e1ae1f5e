-- The intertwiners of a representation of a level.
--
--   formed-kept, among-kept, among-target    its lines hold matrices, and its targets are listed
--   intertwines-degree, intertwines-rest     an intertwiner, by the degrees
--   before-level, from-level, intertwiners-all     the generators of the level itself are no intertwiners
use mathlib.Core.Path.{◌≡◌, sym, ◌∙◌, ap, subst}
use mathlib.Core.Logic.{◌≢◌}
use mathlib.Core.Bool.{Bool, true, false, ◌&&◌, ◌||◌}
use mathlib.Core.List.{List}
use Prim.Native.Nat.{ℕ, ◌+◌, ◌*◌, ◌≤◌, ◌<◌}
use native.Mathlib.Omega.{arith}
use lib.Dec.{eqb}
use lib.ListN.{length}
use borrow.Author.Tests.{eq-eqb, ne_eqb, lt-ltb, le-ltb}
use Rattle.definitions.specs.Lists.{all_below}
use Rattle.definitions.specs.Presentation.{Presentation}
use Rattle.definitions.specs.Monomial.{Rep, rep_of}
use Rattle.definitions.specs.Table.{REF, word_at, rep_at, level_at}
use Rattle.definitions.specs.Judgement.{intertwines, intertwiners_hold}
use Rattle.level.specs.declared.Listed.{Listed}
use Rattle.level.specs.Stored.{target_in}
use Rattle.seek.specs.declared.Scope.{Scope}
use Rattle.seek.specs.Seek.{Found}
use Rattle.seek.specs.Formed.{Formed}
use Rattle.seek.specs.Among.{rep_in, Among}
use Rattle.seek.proofs.Stored.{found_target}
use Rattle.seek.proofs.Among.{formed-stored}
use Rattle.relations.specs.Kept.{MatricesStored}
use Rattle.relations.specs.Tests.{carries, all_carried_in, intertwines_in, targeted_in, intertwiners_in}

-- ---- A representation of a level

pub formed-kept : {P : Presentation} {s : Scope} {T : List ℕ} (F : Formed P s T) (i r : ℕ) {D : Listed} → Found s.gens T i r D → MatricesStored s T D
formed-kept F i r G = record { few = F.whole.few; modulus = F.modulus.0; stored = formed-stored F i r G }

module _ {s : Scope} {T : List ℕ} {i : ℕ} {D : Listed} (A : Among s T i D) where
  pub among-kept : MatricesStored s T D
  among-kept = formed-kept A.formed i A.r A.found

  pub among-target : (j : ℕ) {x : ℕ} → x ≡ target_in T D j → i ≤ j → j < s.gens → x < length (level_at s.gens T i)
  among-target j is l h =
      let e = A.formed.gens_are in
      subst (λ n. _ < length (level_at n T i)) (sym e) (subst (λ x. x < length (level_at A.presented.n T i)) (sym is)
      (found_target A.presented s.m T A.formed.formed i A.r D (subst (λ n. Found n T i A.r D) e A.found) j l (subst (λ n. j < n) e h)))

-- ---- Intertwiners

module _ (s : Scope) (T : List ℕ) (D : Listed) (P : Presentation) (i : ℕ) where
  module _ (j : ℕ) (gens_are : s.gens ≡ P.n) (F : Listed) (found : Found s.gens T i (target_in T D j) F) where
    first : D.line + j * D.deg + 0 ≡ D.line + j * D.deg
    first = omega arith

    target_is : rep_of (level_at P.n T i) ((rep_in T D).ref j 0) ≡ rep_in T F
    unfolding rep_at
    target_is =
        ap (λ l. rep_of (level_at P.n T i) (word_at T l REF)) first ∙ subst (λ n. rep_of (level_at n T i) (target_in T D j) ≡ rep_in T F) gens_are found.rep

    intertwines-is : intertwines_in s T D i j P ≡ (eqb F.deg D.deg && all_carried_in s T D F i j P)
    unfolding intertwines carries rep_at
    intertwines-is = ap (λ (F : Rep). eqb F.deg D.deg && all_below i (λ k. carries P s.m (rep_in T D) F k j)) target_is

    pub intertwines-degree : F.deg ≢ D.deg → false ≡ intertwines_in s T D i j P
    intertwines-degree h = sym (intertwines-is ∙ ap (λ b. b && all_carried_in s T D F i j P) (ne_eqb F.deg D.deg h))

    pub intertwines-rest : {b : Bool} → F.deg ≡ D.deg → b ≡ all_carried_in s T D F i j P → b ≡ intertwines_in s T D i j P
    intertwines-rest e h = h ∙ sym (intertwines-is ∙ ap (λ b. b && all_carried_in s T D F i j P) (eq-eqb F.deg D.deg e))

  -- a generator of the level itself is no intertwiner
  pub before-level : (j : ℕ) → j < i → targeted_in s T D i j P ≡ true
  before-level j l = ap (λ b. b || intertwines_in s T D i j P) (lt-ltb j i l)

  pub from-level : (j : ℕ) {b : Bool} → i ≤ j → b ≡ intertwines_in s T D i j P → b ≡ targeted_in s T D i j P
  from-level j l e = e ∙ sym (ap (λ b. b || intertwines_in s T D i j P) (le-ltb j i l))

  pub intertwiners-all : s.gens ≡ P.n → all_below s.gens (λ j. targeted_in s T D i j P) ≡ intertwiners_in s T D i P
  unfolding intertwiners_hold
  intertwiners-all e = ap (λ n. all_below n (λ j. targeted_in s T D i j P)) e
