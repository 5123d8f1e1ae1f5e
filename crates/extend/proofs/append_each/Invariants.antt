-- `append_each` appends the extensions one behind the other.
use Rattle.lines.proofs.Appending.{Going}
use Rattle.survey.specs.Below.{low_of}
use Rattle.extend.specs.Extending.{extension_words}
use Rattle.extend.proofs.append_each.Given as goal

abbrev pub invariant-loop-k : goal.invariant-loop-k
invariant-loop-k l = Going l.f.end (extension_words l.f (low_of l.f l.initial.words) l.rows l.o.rep) l.initial.words l.at l.k l.words l.pos
