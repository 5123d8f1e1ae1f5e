-- `append_cells` appends the blocks of a generator one behind the other.
use Rattle.lines.proofs.Appending.{Going}
use Rattle.survey.specs.Below.{low_of}
use Rattle.induce.specs.Inducing.{cells_in}
use Rattle.induce.proofs.append_cells.Given as goal

abbrev pub invariant-loop-b : goal.invariant-loop-b
invariant-loop-b l = Going l.f.end (cells_in l.f (low_of l.f l.initial.words) l.notes l.blocks l.i l.g l.x) l.initial.words l.at l.b l.words l.pos
