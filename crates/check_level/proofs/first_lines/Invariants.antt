-- `first_lines` goes from run to run of representations of one degree.
use Prim.Native.Nat.{◌-◌}
use Rattle.seek.specs.Seek.{Found}
use Rattle.check_blocks.proofs.Squares.{Left}
use Rattle.check_level.specs.Lines.{Noted}
use Rattle.check_level.proofs.first_lines.Given as goal

abbrev pub invariant-loop-left : goal.invariant-loop-left
invariant-loop-left l = Noted l.s l.words l.i l.at l.initial.firsts l.firsts l.r × Found l.s.gens l.words l.i l.r l.d ×
    Left l.s.gens l.words l.i l.order l.left l.r

abbrev pub decreases-loop-left : goal.decreases-loop-left
decreases-loop-left l = l.reps - l.r
