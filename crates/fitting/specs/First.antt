-- Level 1 over level 0: characters of a cyclic group, which have one column each.
--
--   FirstFits       what is asked of such a level
use Rattle.std.specs.Prelude.{◌≡◌, true, ℕ, ◌<◌, length}
use Rattle.definitions.specs.Presentation.{Presentation}
use Rattle.definitions.specs.Monomial.{col, Rep, Level, rep_of}
use Rattle.columns.specs.Columns.{power_at, intertwines_at}

module _ (P : Presentation) (n m : ℕ) (High : Level) where
  abbrev pub character : ℕ → Rep
  character r = rep_of High r

  pub record FirstFits : Type 0 where
    -- as many as the prime of generator 0, of degree 1, over the representation of level 0
    pub count : length High ≡ P.p 0
    pub degree : (r : ℕ) → r < length High → (character r).deg ≡ 1
    pub refers : (r : ℕ) → r < length High → (character r).ref 0 0 ≡ 0
    -- column 0 of each generator, and the power relation of generator 0
    pub row : (r g : ℕ) → r < length High → g < n → (col ((character r).matrix g) 0).row ≡ 0
    pub exp_below : (r g : ℕ) → r < length High → g < n → (col ((character r).matrix g) 0).exp < m
    pub power : (r : ℕ) → r < length High → power_at P m (character r) 0 0 ≡ true
    -- the generators above lead to listed characters, and carry generator 0 over
    pub listed : (r j : ℕ) → r < length High → 0 < j → j < n → (character r).ref j 0 < length High
    pub conjugate : (r j : ℕ) → r < length High → 0 < j → j < n → intertwines_at P m (character r) (character ((character r).ref j 0)) 0 j 0 ≡ true
    -- generator 0 has other exponents in different characters
    pub apart : (r r' : ℕ) → r < length High → r' < length High → ¬ (r ≡ r') → ¬ ((col ((character r).matrix 0) 0).exp ≡ (col ((character r').matrix 0) 0).exp)
