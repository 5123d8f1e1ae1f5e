-- What the judgement asks of a single level.
--
--   OfEach P T i q          the condition q holds of every representation of the level above level i
--   LevelPasses P m T i     that level passes 21 to 26
use Rattle.std.specs.Prelude.{◌≡◌, Bool, true, ◌&&◌, List, ℕ, suc, ◌<◌, eqb, length}
use Rattle.definitions.specs.Presentation.{Presentation, order}
use Rattle.definitions.specs.Monomial.{Rep, rep_of}
use Rattle.definitions.specs.Table.{level_at}
use Rattle.definitions.specs.Judgement.{matrices_valid, blocks_whole, targets_listed, relations_hold, restricts, intertwiners_hold, separates, squares}

abbrev pub OfEach : (P : Presentation) (T : List ℕ) (i : ℕ) → (Rep → Bool) → Type 0
OfEach P T i q = (r : ℕ) → r < length (level_at P.n T (suc i)) → q (rep_of (level_at P.n T (suc i)) r) ≡ true

pub record LevelPasses (P : Presentation) (m : ℕ) (T : List ℕ) (i : ℕ) : Type 0 where
  pub formed : OfEach P T i (λ D. matrices_valid P m T (suc i) D && blocks_whole P m T (suc i) D && targets_listed P m T (suc i) D)
  pub relations : OfEach P T i (relations_hold P m T (suc i))
  pub restrictions : OfEach P T i (restricts P m T (suc i))
  pub intertwiners : OfEach P T i (intertwiners_hold P m T (suc i))
  pub separated : (r : ℕ) → r < length (level_at P.n T (suc i)) → separates P m T (suc i) r ≡ true
  pub adds_up : eqb (squares P m T (suc i)) (order P (suc i)) ≡ true
