-- `all_relations` tests the generators one by one.
use mathlib.Core.Path.{◌∙◌}
use native.Mathlib.Omega.{arith}
use Rattle.numbers.proofs.Passed.{passed-all, passed-fails}
use Rattle.relations.proofs.Relations.{relations-top}
use Rattle.relations.proofs.all_relations.Goals as goal

pub returns-then-not-top_relations : goal.returns-then-not-top_relations
returns-then-not-top_relations c = λ P R.
    let t = c.top_relations in
    let a = c.args in
    passed-fails c.loop-j.invariant (omega arith) t.ensures (c.if-not-top_relations.true) P R
    ∙ relations-top a.s a.words.now a.d P a.i

pub returns : goal.returns
returns c = λ P R.
    let a = c.args in
    passed-all c.loop-j.invariant (omega arith) P R ∙ relations-top a.s a.words.now a.d P a.i
