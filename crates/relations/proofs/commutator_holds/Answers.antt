-- `commutator_holds` tests the columns one by one.
use mathlib.Core.Path.{◌∙◌}
use native.Mathlib.Omega.{arith}
use Rattle.numbers.proofs.Passed.{passed-all, passed-fails}
use Rattle.relations.proofs.Kept.{commutator-everywhere}
use Rattle.relations.proofs.commutator_holds.Goals as goal

pub returns-then-not-commutator_at : goal.returns-then-not-commutator_at
returns-then-not-commutator_at c = λ P is.
    let t = c.commutator_at in
    passed-fails c.loop-c.invariant (omega arith) t.ensures (c.if-not-commutator_at.true) P is
    ∙ commutator-everywhere c.requires.0 P c.args.k c.args.j c.requires.1 c.requires.2

pub returns : goal.returns
returns c = λ P is.
    passed-all c.loop-c.invariant (omega arith) P is ∙ commutator-everywhere c.requires.0 P c.args.k c.args.j c.requires.1 c.requires.2
