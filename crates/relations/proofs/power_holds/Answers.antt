-- `power_holds` tests the columns one by one.
use mathlib.Core.Path.{◌∙◌}
use native.Mathlib.Omega.{arith}
use Rattle.numbers.proofs.Passed.{passed-all, passed-fails}
use Rattle.relations.proofs.Kept.{power-everywhere}
use Rattle.relations.proofs.power_holds.Goals as goal

pub returns-then-not-power_at : goal.returns-then-not-power_at
returns-then-not-power_at c = λ P is.
    let t = c.power_at in
    passed-fails c.loop-c.invariant (omega arith) t.ensures (c.if-not-power_at.true) P is
    ∙ power-everywhere c.requires.0 P c.args.j c.requires.1

pub returns : goal.returns
returns c = λ P is.
    passed-all c.loop-c.invariant (omega arith) P is ∙ power-everywhere c.requires.0 P c.args.j c.requires.1
