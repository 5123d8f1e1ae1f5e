-- `append_all` appends what is above one representation behind the other.
use Rattle.lines.proofs.Appending.{Going}
use Rattle.survey.specs.Below.{low_of}
use Rattle.builder.specs.Above.{above_in}
use Rattle.builder.proofs.append_all.Given as goal

abbrev pub invariant-loop-r : goal.invariant-loop-r
invariant-loop-r l = Going l.f.end (above_in l.f (low_of l.f l.initial.words) l.rows) l.initial.words l.f.end l.r l.words l.pos
