-- Laps: an entry turned by a matrix until its basis index comes again.
--
--   Lapped m W at d x w        w is x turned by the matrix at line `at`
--   Lapping m W at d most x w  the same, at most `most` times, and its basis index did not come again before the last turn
--   LapOf m W at d most x w    a lap: the same, and the last turn is the last that is allowed, or brings the basis index again
--   ClosedLap m W at d x w     turns that bring the basis index again
--   gained m k a b             what a lap adds to an exponent that it takes from a to b, for the number k; back, what it takes off
use Rattle.std.specs.Prelude.{◌≡◌, List, ℕ, ◌≤◌, ◌<◌}
use Rattle.definitions.specs.declared.Entry.{Entry}
use Rattle.definitions.specs.Lists.{iter}
use Rattle.definitions.specs.Monomial.{less, act}
use Rattle.signed.specs.declared.Signed.{Signed}
use Rattle.signed.specs.declared.Signed.TheVariants.{Forward, Back}
use Rattle.level.specs.declared.Lap.{Lap}
use Rattle.level.specs.Stored.{matrix_in, Below}

module _ (m : ℕ) (W : List ℕ) (at d : ℕ) where
  pub record Lapped (x : Entry) (w : Lap) : Type 0 where
    pub some : 0 < w.turns
    pub leads : w.to ≡ iter (act m (matrix_in W at d)) w.turns x
    pub below : Below m d w.to

  pub record Lapping (most : ℕ) (x : Entry) (w : Lap) : Type 0 where
    pub lapped : Lapped x w
    pub at_most : w.turns ≤ most
    pub first : (k : ℕ) → 0 < k → k < w.turns → ¬ ((iter (act m (matrix_in W at d)) k x).row ≡ x.row)

  pub record LapOf (most : ℕ) (x : Entry) (w : Lap) : Type 0 where
    pub lapping : Lapping most x w
    pub ends : w.turns < most → w.to.row ≡ x.row

  pub record ClosedLap (x : Entry) (w : Lap) : Type 0 where
    pub lapped : Lapped x w
    pub row : w.to.row ≡ x.row

abbrev pub gained : ℕ → Signed → ℕ → ℕ → ℕ
gained m (Forward n) a b = less m b a
gained m (Back n) a b = less m a b
