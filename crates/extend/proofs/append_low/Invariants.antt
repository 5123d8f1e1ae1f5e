-- `append_low` appends the generators up to the one on top, one behind the other.
use Rattle.lines.proofs.Appending.{Going}
use Rattle.survey.specs.Below.{low_of}
use Rattle.extend.specs.Extending.{copy_words}
use Rattle.extend.proofs.append_low.Given as goal

abbrev pub invariant-loop-g : goal.invariant-loop-g
invariant-loop-g l = Going l.f.end (λ j. copy_words l.f (low_of l.f l.initial.words) l.o l.k j l.o.rep) l.initial.words l.at l.g l.words l.pos
