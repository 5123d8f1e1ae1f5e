-- `level_compares` goes through the representations of the level.
use Prim.Native.Nat.{ℕ, suc, ◌<◌}
use Rattle.definitions.specs.Table.{level_at}
use Rattle.claims.proofs.Claims.{Claims}
use Rattle.compare.specs.Blocks.{RepFits}
use Rattle.check_single.specs.Power.{PowerHolds}
use Rattle.check_level.specs.Level.{rep_at_level}
use Rattle.check_level.proofs.level_compares.Given as goal

abbrev pub invariant-loop-r : goal.invariant-loop-r
invariant-loop-r l = ((q : ℕ) → q < l.r → RepFits l.s l.words l.g (rep_at_level l.s l.words (suc l.g.top) q))
    × ((q : ℕ) → q < l.r → PowerHolds l.s l.words l.rows l.g (rep_at_level l.s l.words (suc l.g.top) q))
    × Claims l.g.top l.g.p l.part (level_at l.s.gens l.words (suc l.g.top)) l.r l.marks l.slots
