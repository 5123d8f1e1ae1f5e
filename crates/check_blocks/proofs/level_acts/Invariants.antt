-- `level_acts` goes through the representations of the level.
use Prim.Native.Nat.{suc, ◌+◌}
use Rattle.seek.proofs.Walk.{Walked}
use Rattle.seek.proofs.Among.{PassingOn}
use Rattle.check_blocks.proofs.Levels.{Holding, asks}
use Rattle.check_blocks.proofs.level_acts.Given as goal

abbrev pub invariant-loop-d : goal.invariant-loop-d
invariant-loop-d l = Walked l.s l.words (l.i + 1) (PassingOn l.s l.words (Holding l.s l.words) (asks l.s l.words) (suc l.i)) l.d-iterator
