-- What decides 22 where 21 and 23 hold: the relations of the generator on top of each level.
--
--   top_relations      the relations of level suc i that have generator i in them
use Rattle.std.specs.Prelude.{ℕ, zero, suc, Bool, true, ◌&&◌, List}
use Rattle.definitions.specs.Lists.{all_below}
use Rattle.definitions.specs.Presentation.{Presentation}
use Rattle.definitions.specs.Monomial.{Rep}
use Rattle.definitions.specs.Judgement

module _ (P : Presentation) (m : ℕ) (table : List ℕ) where
  unfoldable pub top_relations : ℕ → Rep → Bool
  top_relations zero D = true
  top_relations (suc i) D = Judgement.power_holds P m table D i && all_below i (λ k. Judgement.commutator_holds P m table D k i)
