-- A complete table whose levels stand, each cut into blocks of the level below, passes the judgement.
--
--   Founded           a level that stands on some family
--   level-passes      such a level, cut into blocks, passes
--   all_pass          a complete table whose levels all pass, passes
--   levels-pass       so does one whose levels all stand
use mathlib.Core.Path.{◌≡◌, ◌∙◌, ap}
use mathlib.Core.Bool.{Bool, true, false, not}
use mathlib.Core.List.{List}
use Prim.Native.Nat.{ℕ, suc, ◌%◌, ◌<◌}
use lib.Dec.{eqb}
use lib.ListN.{length}
use Rattle.definitions.specs.Presentation.{line_words, Presentation}
use Rattle.definitions.specs.Monomial.{Rep, Level, rep_of}
use Rattle.definitions.specs.Table.{level_at, complete}
use Rattle.definitions.specs.Judgement
use Rattle.definitions.specs.Answers.{first_of, judgement}
use Rattle.numbers.proofs.Bools.{and_intro, cond-false}
use Rattle.numbers.proofs.Lists.{all_below-intro}
use Rattle.group.specs.Context.{Context}
use Rattle.group.proofs.Level.{level, conj_nf}
use Rattle.group.proofs.Group.{Test}
use Rattle.monomial.specs.Families.{Family}
use Rattle.monomial.proofs.Residues.{residues}
use Rattle.clifford.specs.Stands.{Stands, Restricts}
use Rattle.clifford.specs.Passing.{OfEach, LevelPasses}
use Rattle.clifford.proofs.Judged.{relations-hold, intertwiners-hold, separates-hold, squares-hold, valid-holds, listed-holds}
use Rattle.clifford.proofs.Cuts.{blocks-whole, blocks-restrict}
use Rattle.clifford.proofs.Everywhere.{everywhere-intro}

pub record Founded (C : Context) (m : ℕ) (pos : 0 < m) (i : ℕ) (L : Level) : Type 1 where
  pub Ω : Type 0
  pub F : Family (residues m pos) Ω (level C i) (conj_nf C i) i C.P.n
  pub stands : Stands C C.P.n m pos i L F

-- ---- One level

pub level-passes : (C : Context) → ((k : ℕ) → k < C.P.n → Test C k) → (m : ℕ) (pos : 0 < m) (T : List ℕ) (i : ℕ) → i < C.P.n
    → Founded C m pos (suc i) (level_at C.P.n T (suc i))
    → ((r : ℕ) → r < length (level_at C.P.n T (suc i)) → Restricts i (level_at C.P.n T i) (rep_of (level_at C.P.n T (suc i)) r))
    → LevelPasses C.P m T i
level-passes C tests m pos T i l St cut = record {
  formed = λ r h.
      and_intro _ _ (and_intro _ _ (valid-holds C tests m pos T (suc i) l St.F St.stands r h) (blocks-whole C.P m T i _ (cut r h)))
      (listed-holds C tests m pos T (suc i) l St.F St.stands r h);
  relations = λ r h. relations-hold C tests m pos T (suc i) l St.F St.stands r h;
  restrictions = λ r h. blocks-restrict C.P m T i _ (cut r h);
  intertwiners = λ r h. intertwiners-hold C tests m pos T (suc i) l St.F St.stands r h;
  separated = λ r h. separates-hold C tests m pos T (suc i) l St.F St.stands r h;
  adds_up = squares-hold C tests m pos T (suc i) l St.F St.stands;
}

-- ---- All levels

module _ (P : Presentation) (m : ℕ) (T : List ℕ) (passes : (i : ℕ) → i < P.n → LevelPasses P m T i) (whole : eqb (length T % line_words) 0 ≡ true)
    (lines : complete P.n T ≡ true) where
  -- what holds of each representation of each level
  each : (q : (i : ℕ) → Rep → Bool) → ((i : ℕ) → LevelPasses P m T i → OfEach P T i (q (suc i))) → not (Judgement.everywhere P m T q) ≡ false
  each q h = ap not (everywhere-intro P m T q (λ i l. h i (passes i l)))

  pub all_pass : judgement P m T ≡ 0
  unfolding judgement first_of Judgement.malformed Judgement.relation_fails Judgement.restriction_fails Judgement.intertwiner_fails Judgement.not_separated
      Judgement.squares_fail Judgement.every_level
  all_pass =
      cond-false (Judgement.malformed P m T) _ _ (ap not (and_intro _ _ (and_intro _ _ whole lines) (everywhere-intro P m T _ (λ i l. (passes i l).formed))))
      ∙ cond-false (Judgement.relation_fails P m T) _ _ (each (Judgement.relations_hold P m T) (λ i L. L.relations))
      ∙ cond-false (Judgement.restriction_fails P m T) _ _ (each (Judgement.restricts P m T) (λ i L. L.restrictions))
      ∙ cond-false (Judgement.intertwiner_fails P m T) _ _ (each (Judgement.intertwiners_hold P m T) (λ i L. L.intertwiners))
      ∙ cond-false (Judgement.not_separated P m T) _ _ (ap not (all_below-intro P.n _ (λ i l. all_below-intro _ _ (passes i l).separated)))
      ∙ cond-false (Judgement.squares_fail P m T) _ _ (ap not (all_below-intro P.n _ (λ i l. (passes i l).adds_up)))

pub levels-pass : (C : Context) → ((k : ℕ) → k < C.P.n → Test C k) → (m : ℕ) (pos : 0 < m) (T : List ℕ)
    → ((i : ℕ) → i < C.P.n → Founded C m pos (suc i) (level_at C.P.n T (suc i)))
    → ((i : ℕ) → i < C.P.n → (r : ℕ) → r < length (level_at C.P.n T (suc i))
    → Restricts i (level_at C.P.n T i) (rep_of (level_at C.P.n T (suc i)) r))
    → eqb (length T % line_words) 0 ≡ true → complete C.P.n T ≡ true → judgement C.P m T ≡ 0
levels-pass C tests m pos T founded cut = all_pass C.P m T (λ i l. level-passes C tests m pos T i l (founded i l) (cut i l))
