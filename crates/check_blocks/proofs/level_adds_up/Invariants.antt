-- `level_adds_up` takes the squares from the order, one representation behind the other.
use Rattle.seek.proofs.Walk.{Walked}
use Rattle.check_blocks.proofs.Squares.{Left}
use Rattle.check_blocks.proofs.level_adds_up.Given as goal

abbrev pub invariant-loop-d : goal.invariant-loop-d
invariant-loop-d l = Walked l.fn.s l.words l.i (Left l.fn.s.gens l.words l.i l.order l.left) l.d-iterator
