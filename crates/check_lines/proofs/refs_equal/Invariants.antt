-- `refs_equal` meets its contract: generator after generator.
use Rattle.numbers.proofs.Tested.{Tested}
use Rattle.check_lines.specs.Lines.{refs_as}
use Rattle.check_lines.proofs.refs_equal.Given as goal

abbrev pub invariant-loop-g : goal.invariant-loop-g
invariant-loop-g l = Tested (refs_as l.words l.d) l.g
