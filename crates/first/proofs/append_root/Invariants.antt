-- `append_root` appends a line for each generator.
use Rattle.lines.proofs.Appending.{Going}
use Rattle.first.specs.Roots.{root_line}
use Rattle.first.proofs.append_root.Given as goal

abbrev pub invariant-loop-g : goal.invariant-loop-g
invariant-loop-g l = Going 0 (root_line l.p l.m l.rows l.k) l.initial.words l.at l.g l.words l.pos
