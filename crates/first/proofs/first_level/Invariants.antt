-- `first_level` appends the powers of the root one behind the other.
use Rattle.lines.proofs.Appending.{Going}
use Rattle.first.specs.Roots.{root_words}
use Rattle.first.proofs.first_level.Given as goal

abbrev pub invariant-loop-k : goal.invariant-loop-k
invariant-loop-k l = Going 0 (root_words l.n l.p l.m l.rows) l.initial.words 0 l.k l.words l.pos
