-- `carries_over` tests the columns one by one.
use mathlib.Core.Path.{◌∙◌}
use native.Mathlib.Omega.{arith}
use Rattle.numbers.proofs.Passed.{passed-all, passed-fails}
use Rattle.relations.proofs.Kept.{intertwiner-everywhere}
use Rattle.relations.proofs.carries_over.Goals as goal

pub returns-then-not-intertwines_at : goal.returns-then-not-intertwines_at
returns-then-not-intertwines_at c = λ P is.
    let t = c.intertwines_at in
    passed-fails c.loop-c.invariant (omega arith) t.ensures (c.if-not-intertwines_at.true) P is
    ∙ intertwiner-everywhere c.requires.0 P c.args.k c.args.j c.requires.3 c.requires.4 c.requires.1 c.requires.2

pub returns : goal.returns
returns c = λ P is.
    passed-all c.loop-c.invariant (omega arith) P is
    ∙ intertwiner-everywhere c.requires.0 P c.args.k c.args.j c.requires.3 c.requires.4 c.requires.1 c.requires.2
