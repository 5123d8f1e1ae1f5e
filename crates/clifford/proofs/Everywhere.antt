-- What holds of every representation of a table.
--
--   everywhere-intro, everywhere-elim     a test everywhere, and at each representation of each level
use mathlib.Core.Path.{◌≡◌}
use mathlib.Core.Bool.{Bool, true}
use mathlib.Core.List.{List}
use Prim.Native.Nat.{ℕ, suc, ◌<◌}
use lib.ListN.{length}
use Rattle.definitions.specs.Presentation.{Presentation}
use Rattle.definitions.specs.Monomial.{Rep, rep_of}
use Rattle.definitions.specs.Table.{level_at}
use Rattle.definitions.specs.Judgement.{everywhere}
use Rattle.numbers.proofs.Lists.{all_below-elim, all_below-intro}

module _ (P : Presentation) (m : ℕ) (T : List ℕ) (q : (i : ℕ) → Rep → Bool) where
  pub everywhere-intro : ((i : ℕ) → i < P.n → (r : ℕ) → r < length (level_at P.n T (suc i)) → q (suc i) (rep_of (level_at P.n T (suc i)) r) ≡ true)
      → everywhere P m T q ≡ true
  unfolding everywhere
  everywhere-intro h = all_below-intro P.n _ (λ i l. all_below-intro _ _ (h i l))

  pub everywhere-elim : everywhere P m T q ≡ true → (i : ℕ) → i < P.n → (r : ℕ) → r < length (level_at P.n T (suc i))
      → q (suc i) (rep_of (level_at P.n T (suc i)) r) ≡ true
  unfolding everywhere
  everywhere-elim h i l = all_below-elim _ _ (all_below-elim P.n _ h i l)
