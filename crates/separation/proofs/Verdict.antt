-- The judgement by the tests that a checker makes, in its order: 21; 23, to know which relations are enough; 22; 24; 25 level by
-- level without products; 26. Each lemma is what one of its answers rests on.
--
--   judged-21, judged-22, judged-22-top, judged-23, judged-24, judged-25, judged-26, judged-0
--   separated-pairs      levels that are separated pass the test by pairs
use mathlib.Core.Path.{◌≡◌, sym, ◌∙◌, ap}
use mathlib.Core.Bool.{Bool, true, false, not}
use mathlib.Core.List.{List, [], ◌∷◌}
use Prim.Native.Nat.{ℕ, suc, ◌≤◌, ◌<◌}
use lib.Dec.{eqb}
use lib.ListN.{length}
use Rattle.definitions.specs.Lists.{all_below}
use Rattle.definitions.specs.Presentation.{order}
use Rattle.definitions.specs.Table.{level_at}
use Rattle.definitions.specs.Judgement
use Rattle.definitions.specs.Answers.{first_of, judgement}
use Rattle.numbers.proofs.Bools.{cond-true, cond-false}
use Rattle.numbers.proofs.Lists.{all_below-below}
use Rattle.clifford.specs.Accepted.{Accepted}
use Rattle.separation.specs.Decision.{quick, pairwise}
use Rattle.separation.specs.Relations.{top_relations}
use Rattle.separation.proofs.Walk.{separated-quick, separation-decides}
use Rattle.separation.proofs.Pairs.{quick-pairs}
use Rattle.separation.proofs.Relations.{relations-decide}

module _ (A : Accepted) (m : ℕ) (pos : 0 < m) (T : List ℕ) where
  open A use {C}
  open C use {P}

  abbrev relations : Bool
  relations = Judgement.relation_fails P m T

  abbrev restrictions : Bool
  restrictions = Judgement.restriction_fails P m T

  pub judged-21 : Judgement.malformed A.C.P m T ≡ true → judgement A.C.P m T ≡ 21
  unfolding judgement first_of
  judged-21 h = cond-true (Judgement.malformed P m T) _ _ h

  module _ (formed : Judgement.malformed A.C.P m T ≡ false) where
    past-21 : (a : ℕ) → first_of
        ((22, relations) ∷ (23, restrictions) ∷ (24, Judgement.intertwiner_fails P m T) ∷ (25, Judgement.not_separated P m T) ∷
        (26, Judgement.squares_fail P m T) ∷ []) ≡ a → judgement P m T ≡ a
    unfolding judgement first_of
    past-21 a h = cond-false (Judgement.malformed P m T) _ _ formed ∙ h

    pub judged-22 : Judgement.everywhere A.C.P m T (Judgement.relations_hold A.C.P m T) ≡ false → judgement A.C.P m T ≡ 22
    unfolding Judgement.relation_fails first_of
    judged-22 h = past-21 22 (cond-true relations _ _ (ap not h))

    module _ (hold : Judgement.relation_fails A.C.P m T ≡ false) where
      pub judged-23 : Judgement.everywhere A.C.P m T (Judgement.restricts A.C.P m T) ≡ false → judgement A.C.P m T ≡ 23
      unfolding Judgement.restriction_fails first_of
      judged-23 h = past-21 23 (cond-false relations _ _ hold ∙ cond-true restrictions _ _ (ap not h))

    module _ (restricts : Judgement.everywhere A.C.P m T (Judgement.restricts A.C.P m T) ≡ true) where
      restricted : Judgement.restriction_fails P m T ≡ false
      unfolding Judgement.restriction_fails
      restricted = ap not restricts

      tops : Judgement.relation_fails P m T ≡ not (Judgement.everywhere P m T (top_relations P m T))
      tops = relations-decide A.C m T formed restricted

      pub judged-22-top : Judgement.everywhere A.C.P m T (top_relations A.C.P m T) ≡ false → judgement A.C.P m T ≡ 22
      unfolding first_of
      judged-22-top h = past-21 22 (cond-true relations _ _ (tops ∙ ap not h))

      module _ (top-hold : Judgement.everywhere A.C.P m T (top_relations A.C.P m T) ≡ true) where
        hold : Judgement.relation_fails P m T ≡ false
        hold = tops ∙ ap not top-hold

        past-23 : (a : ℕ) → first_of
            ((24, Judgement.intertwiner_fails P m T) ∷ (25, Judgement.not_separated P m T) ∷ (26, Judgement.squares_fail P m T) ∷ []) ≡ a → judgement P m T ≡ a
        unfolding first_of
        past-23 a h = past-21 a (cond-false relations _ _ hold ∙ cond-false restrictions _ _ restricted ∙ h)

        pub judged-24 : Judgement.everywhere A.C.P m T (Judgement.intertwiners_hold A.C.P m T) ≡ false → judgement A.C.P m T ≡ 24
        unfolding first_of Judgement.intertwiner_fails
        judged-24 h = past-23 24 (cond-true (Judgement.intertwiner_fails P m T) _ _ (ap not h))

        separated : Judgement.not_separated P m T ≡ not (all_below P.n (pairwise P T))
        separated =
            separation-decides A.C m T formed restricted hold pos A.tests A.units
            ∙ ap not (all_below-below P.n (quick P T) (pairwise P T) (λ i l. quick-pairs P T i))

        -- of levels that are separated, by pairs
        pub separated-pairs : (k : ℕ) → k ≤ A.C.P.n
            → ((i : ℕ) → i < k → (r : ℕ) → r < length (level_at A.C.P.n T (suc i)) → Judgement.separates A.C.P m T (suc i) r ≡ true)
            → (i : ℕ) → i < k → pairwise A.C.P T i ≡ true
        separated-pairs k l s i h =
            sym (quick-pairs P T i) ∙ separated-quick A.C m T formed restricted hold pos A.tests A.units k l s i h

        module _ (intertwine : Judgement.everywhere A.C.P m T (Judgement.intertwiners_hold A.C.P m T) ≡ true) where
          past-24 : (a : ℕ) → first_of ((25, Judgement.not_separated P m T) ∷ (26, Judgement.squares_fail P m T) ∷ []) ≡ a → judgement P m T ≡ a
          unfolding first_of Judgement.intertwiner_fails
          past-24 a h = past-23 a (cond-false (Judgement.intertwiner_fails P m T) _ _ (ap not intertwine) ∙ h)

          pub judged-25 : all_below A.C.P.n (pairwise A.C.P T) ≡ false → judgement A.C.P m T ≡ 25
          unfolding first_of
          judged-25 h = past-24 25 (cond-true (Judgement.not_separated P m T) _ _ (separated ∙ ap not h))

          module _ (apart : all_below A.C.P.n (pairwise A.C.P T) ≡ true) where
            past-25 : (a : ℕ) → first_of ((26, Judgement.squares_fail P m T) ∷ []) ≡ a → judgement P m T ≡ a
            unfolding first_of
            past-25 a h = past-24 a (cond-false (Judgement.not_separated P m T) _ _ (separated ∙ ap not apart) ∙ h)

            pub judged-26 : Judgement.every_level A.C.P m T (λ i. eqb (Judgement.squares A.C.P m T i) (order A.C.P i)) ≡ false
                → judgement A.C.P m T ≡ 26
            unfolding first_of Judgement.squares_fail
            judged-26 h = past-25 26 (cond-true (Judgement.squares_fail P m T) _ _ (ap not h))

            pub judged-0 : Judgement.every_level A.C.P m T (λ i. eqb (Judgement.squares A.C.P m T i) (order A.C.P i)) ≡ true
                → judgement A.C.P m T ≡ 0
            unfolding first_of Judgement.squares_fail
            judged-0 h = past-25 0 (cond-false (Judgement.squares_fail P m T) _ _ (ap not h))
