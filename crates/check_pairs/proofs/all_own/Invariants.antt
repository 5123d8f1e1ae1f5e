-- `all_own` goes through the representations of the level.
use Prim.Native.Nat.{◌+◌}
use Rattle.seek.proofs.Walk.{Walked}
use Rattle.check_pairs.proofs.Levels.{Owning}
use Rattle.check_pairs.proofs.all_own.Given as goal

abbrev pub invariant-loop-d : goal.invariant-loop-d
invariant-loop-d l = Walked l.s l.words (l.i + 1) (Owning l.s l.words l.i l.p) l.d-iterator
