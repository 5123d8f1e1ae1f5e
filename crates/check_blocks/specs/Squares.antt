-- The squares of the degrees of a level.
--
--   square_of n T i r       the square of the degree of representation r of level i
--   squares_in n T i        the sum of the squares of the degrees of level i
--   OrderedBehind s orders T k P    orders are those of P, and the squares of the first k levels add up
--   AddsUp s orders T k r  r says whether the squares of the degrees of every level add up to its order, for every such P
use Rattle.std.specs.Prelude.{◌≡◌, Bool, true, List, ℕ, suc, ◌*◌, ◌<◌, eqb, length}
use Rattle.definitions.specs.Lists.{sum}
use Rattle.definitions.specs.Presentation.{Presentation, order}
use Rattle.definitions.specs.Monomial.{rep_of}
use Rattle.definitions.specs.Table.{level_at}
use Rattle.definitions.specs.Judgement.{every_level, squares}
use Rattle.seek.specs.declared.Scope.{Scope}
use Rattle.seek.specs.Formed.{Ordered}

abbrev pub square_of : ℕ → List ℕ → ℕ → ℕ → ℕ
square_of n T i r = (rep_of (level_at n T i) r).deg * (rep_of (level_at n T i) r).deg

unfoldable pub squares_in : ℕ → List ℕ → ℕ → ℕ
squares_in n T i = sum (length (level_at n T i)) (square_of n T i)

pub record OrderedBehind (s : Scope) (orders T : List ℕ) (k : ℕ) (P : Presentation) : Type 0 where
  pub ordered : Ordered P s orders
  pub known : (i : ℕ) → i < k → eqb (squares P s.m T (suc i)) (order P (suc i)) ≡ true

pub record AddsUp (s : Scope) (orders T : List ℕ) (k : ℕ) (r : Bool) : Type 0 where
  pub is : (P : Presentation) → OrderedBehind s orders T k P → r ≡ every_level P s.m T (λ i. eqb (squares P s.m T i) (order P i))
