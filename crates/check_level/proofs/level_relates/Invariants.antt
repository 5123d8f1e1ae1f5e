-- `level_relates` goes through the representations of the level.
use Prim.Native.Nat.{ℕ, suc, ◌-◌, ◌<◌}
use Rattle.check_columns.specs.Relates.{CarriesAll}
use Rattle.check_level.specs.Level.{rep_at_level, width_below}
use Rattle.check_level.proofs.level_relates.Given as goal

abbrev pub invariant-loop-r : goal.invariant-loop-r
invariant-loop-r l = (q : ℕ) → q < l.r
    → CarriesAll l.s l.words l.firsts l.g (rep_at_level l.s l.words (suc l.g.top) q) l.rows
    (width_below l.words l.firsts l.g (rep_at_level l.s l.words (suc l.g.top) q))

abbrev pub decreases-loop-r : goal.decreases-loop-r
decreases-loop-r l = l.above - l.r
