-- `refs_equal` meets its contract: generator after generator.
use mathlib.Core.Path.{sym, ◌∙◌}
use native.Mathlib.Omega.{arith}
use Rattle.numbers.proofs.Tested.{tested-all, tested-fails}
use Rattle.check_lines.proofs.refs_equal.Goals as goal

pub returns-then-not-refs_as : goal.returns-then-not-refs_as
returns-then-not-refs_as c = let refs-as = c.refs_as in
    tested-fails c.loop-g.invariant (omega arith) (sym refs-as.ensures ∙ c.if-not-refs_as.true)

pub returns : goal.returns
returns c = tested-all c.loop-g.invariant (omega arith)
