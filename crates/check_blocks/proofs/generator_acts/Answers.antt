-- `generator_acts` tests the columns one by one.
use mathlib.Core.Path.{sym, ◌∙◌}
use native.Mathlib.Omega.{arith}
use Rattle.numbers.proofs.Tested.{tested-all, tested-fails}
use Rattle.check_blocks.proofs.generator_acts.Goals as goal

pub returns-then-not-column_acts : goal.returns-then-not-column_acts
returns-then-not-column_acts c = let t = c.column_acts in
    tested-fails c.loop-c.invariant (omega arith) (sym t.ensures ∙ c.if-not-column_acts.true)

pub returns : goal.returns
returns c = tested-all c.loop-c.invariant (omega arith)
