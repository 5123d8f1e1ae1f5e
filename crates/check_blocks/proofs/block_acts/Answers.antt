-- `block_acts` tests the generators one by one.
use mathlib.Core.Path.{sym, ◌∙◌}
use native.Mathlib.Omega.{arith}
use Rattle.numbers.proofs.Tested.{tested-all, tested-fails}
use Rattle.check_blocks.proofs.block_acts.Goals as goal

pub returns-then-not-generator_acts : goal.returns-then-not-generator_acts
returns-then-not-generator_acts c = let t = c.generator_acts in
    tested-fails c.loop-k.invariant (omega arith) (sym t.ensures ∙ c.if-not-generator_acts.true)

pub returns : goal.returns
returns c = tested-all c.loop-k.invariant (omega arith)
