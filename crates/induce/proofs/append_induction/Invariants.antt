-- `append_induction` appends its generators one behind the other.
use Rattle.lines.proofs.Appending.{Going}
use Rattle.survey.specs.Below.{low_of}
use Rattle.orbits.specs.Blocks.{Inducing}
use Rattle.induce.specs.Inducing.{induced_words}
use Rattle.induce.proofs.append_induction.Given as goal

abbrev pub invariant-loop-g : goal.invariant-loop-g
invariant-loop-g l = Inducing l.f (low_of l.f l.initial.words) l.rows l.notes l.blocks l.i.leader
    × Going l.f.end (induced_words l.f (low_of l.f l.initial.words) l.rows l.i) l.initial.words l.at l.g l.words l.pos
