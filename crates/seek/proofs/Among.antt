-- The representations of a table, one behind the other and level by level.
--
--   formed-stored                where 21 does not apply the lines of a representation hold matrices
--   among-whole                  and its blocks are whole
--   PassingOn                    the first r representations of level i pass a test, for every presentation with A
--   told-found, level-fails, level_holds      the steps of a loop over a level
--   UpTo, up-to-known            so do all representations of the first i levels; levels of which it is known
--   table-fails, table-holds     the steps of a loop over the levels
use mathlib.Core.Path.{◌≡◌, sym, ◌∙◌, ap, subst}
use mathlib.Core.Bool.{Bool, true, false}
use mathlib.Core.List.{List}
use Prim.Native.Nat.{ℕ, suc, ◌≤◌, ◌<◌}
use native.Mathlib.Omega.{arith}
use lib.ListN.{length}
use Rattle.definitions.specs.Lists.{all_below, all}
use Rattle.definitions.specs.Presentation.{Presentation}
use Rattle.definitions.specs.Monomial.{Rep, rep_of}
use Rattle.definitions.specs.Table.{level_at}
use Rattle.definitions.specs.Judgement.{cuts, whole_block, matrices_valid, blocks_whole, targets_listed, everywhere}
use Rattle.numbers.proofs.Bools.{and_left, and_right}
use Rattle.numbers.proofs.Passed.{Passed, passed-all, passed-fails}
use Rattle.level.specs.declared.Listed.{Listed}
use Rattle.level.specs.Stored.{Stored}
use Rattle.seek.specs.declared.Scope.{Scope}
use Rattle.seek.specs.Seek.{Found}
use Rattle.seek.specs.Formed.{Formed}
use Rattle.seek.specs.Among.{rep_in, Among, on_level, PassesFirst}
use Rattle.seek.proofs.Stored.{found-stored, well_formed}

pub formed-stored : {P : Presentation} {s : Scope} {T : List ℕ} (F : Formed P s T) (i r : ℕ) {D : Listed} → Found s.gens T i r D
    → Stored s.m s.gens T D
formed-stored {P} {s} {T} F i r {D} G =
    subst (λ n. Stored s.m n T D) (sym F.gens_are)
    (found-stored P s.m T F.formed (omega (arith, F.modulus.1)) i r D (subst (λ n. Found n T i r D) F.gens_are G))

module _ {s : Scope} {T : List ℕ} {i : ℕ} {D : Listed} (M : Among s T (suc i) D) where
  abbrev Rp : Rep
  Rp = rep_in T D

  pub among-whole : all (whole_block (level_at s.gens T i) (rep_in T D)) (cuts (level_at s.gens T i) (rep_in T D)) ≡ true
  among-whole = subst (λ n. all (whole_block (level_at n T i) Rp) (cuts (level_at n T i) Rp) ≡ true) (sym e) here
    where
      e : s.gens ≡ M.presented.n
      e = M.formed.gens_are

      F : Found M.presented.n T (suc i) M.r D
      F = subst (λ n. Found n T (suc i) M.r D) e M.found

      here : all (whole_block (level_at M.presented.n T i) Rp) (cuts (level_at M.presented.n T i) Rp) ≡ true
      here = unfold blocks_whole in (
          let Q : Presentation = M.presented in
          let X : Rep = rep_of (level_at Q.n T (suc i)) M.r in
          let w = well_formed Q s.m T M.formed.formed i F.level.1 M.r F.listed in
          let b = and_right (matrices_valid Q s.m T (suc i) X) (blocks_whole Q s.m T (suc i) X) (and_left _ (targets_listed Q s.m T (suc i) X) w) in
          subst (λ (X : Rep). all (whole_block (level_at Q.n T i) X) (cuts (level_at Q.n T i) X) ≡ true) F.rep
          (and_left (all (whole_block (level_at Q.n T i) X) (cuts (level_at Q.n T i) X)) _ b))

module _ (s : Scope) (T : List ℕ) (A : Presentation → Type 0) (q : Presentation → ℕ → Rep → Bool) where
  -- ---- A level

  abbrev pub PassingOn : (i r : ℕ) → Type 0
  PassingOn i r = Passed A (λ P r. q P i (rep_of (level_at s.gens T i) r)) r

  module _ (i : ℕ) where
    pub told-found : {r : ℕ} {D : Listed} {b : Bool} → Found s.gens T i r D → ((P : Presentation) → A P → b ≡ q P i (rep_in T D))
        → (P : Presentation) → A P → b ≡ q P i (rep_of (level_at s.gens T i) r)
    told-found F t P p = t P p ∙ ap (q P i) (sym F.rep)

    pub level-fails : {r : ℕ} {D : Listed} {b : Bool} → PassingOn i r → Found s.gens T i r D
        → ((P : Presentation) → A P → b ≡ q P i (rep_in T D)) → b ≡ false → (P : Presentation) → A P → false ≡ on_level s.gens T (q P) i
    unfolding on_level
    level-fails h F t e = passed-fails h F.listed (told-found F t) e

    pub level_holds : {r : ℕ} → PassingOn i r → length (level_at s.gens T i) ≤ r → (P : Presentation) → A P → true ≡ on_level s.gens T (q P) i
    unfolding on_level
    level_holds h l = passed-all h l

  -- ---- The levels

  abbrev pub UpTo : ℕ → Type 0
  UpTo i = Passed A (λ P i. on_level s.gens T (q P) (suc i)) i

  pub up-to-known : {k : ℕ} → ((P : Presentation) → A P → PassesFirst s.gens T (q P) k) → UpTo k
  up-to-known h = record { tested = λ P p. record { each = h P p } }

  module _ (m : ℕ) (gens_are : (P : Presentation) → A P → s.gens ≡ P.n) where
    everywhere-is : (P : Presentation) → A P → all_below s.gens (λ i. on_level s.gens T (q P) (suc i)) ≡ everywhere P m T (q P)
    unfolding everywhere on_level
    everywhere-is P p = ap (λ n. all_below n (λ i. on_level n T (q P) (suc i))) (gens_are P p)

    pub table-fails : {i : ℕ} {b : Bool} → UpTo i → i < s.gens → ((P : Presentation) → A P → b ≡ on_level s.gens T (q P) (suc i)) → b ≡ false
        → (P : Presentation) → A P → false ≡ everywhere P m T (q P)
    table-fails h l t e P p = passed-fails h l t e P p ∙ everywhere-is P p

    pub table-holds : {i : ℕ} → UpTo i → s.gens ≤ i → (P : Presentation) → A P → true ≡ everywhere P m T (q P)
    table-holds h l P p = passed-all h l P p ∙ everywhere-is P p
