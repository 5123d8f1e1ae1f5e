-- `append_extension` appends the generators up to the one on top, and those above one behind the other.
use Prim.Native.Nat.{◌+◌, ◌<◌}
use Rattle.survey.specs.Below.{low_of}
use Rattle.extend.proofs.Extensions.{matrix_words, Onward}
use Rattle.extend.proofs.append_extension.Given as goal

abbrev pub invariant-loop-g : goal.invariant-loop-g
invariant-loop-g l = (l.f.top < l.g)
    × Onward l.f.end (matrix_words l.f (low_of l.f l.initial.words) l.rows l.o.rep l.k) (l.f.top + 1) l.initial.words l.initial.pos l.g l.words l.pos
