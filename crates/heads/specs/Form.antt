-- What refusal 21 asks of a representation beside its degree.
--
--   body_ok i D       valid matrices, whole blocks, and listed targets
use Rattle.std.specs.Prelude.{Bool, ◌&&◌, List, ℕ}
use Rattle.definitions.specs.Lists.{all_below}
use Rattle.definitions.specs.Presentation.{Presentation}
use Rattle.definitions.specs.Monomial.{valid, Rep}
use Rattle.definitions.specs.Judgement.{blocks_whole, targets_listed}

module _ (P : Presentation) (m : ℕ) (T : List ℕ) where
  unfoldable pub body_ok : ℕ → Rep → Bool
  body_ok i D = all_below P.n (λ g. valid m D.deg (D.matrix g)) && blocks_whole P m T i D && targets_listed P m T i D
