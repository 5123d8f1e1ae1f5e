-- `top_relations` tests the power relation, then the commutator relations one by one.
use mathlib.Core.Path.{◌∙◌}
use native.Mathlib.Omega.{arith}
use Rattle.numbers.proofs.Passed.{passed-more, passed-all, passed-fails}
use Rattle.relations.proofs.Relations.{word_read, top-fails, top-rest}
use Rattle.relations.proofs.top_relations.Goals as goal

pub returns-then-not-power_relation : goal.returns-then-not-power_relation
returns-then-not-power_relation c = λ P R.
    let t = c.power_relation in
    let a = c.args in
    top-fails a.s a.words.now a.d P a.j (t.ensures P R) (c.if-not-power_relation.true)

pub returns-then-not-commutator_relation : goal.returns-then-not-commutator_relation
returns-then-not-commutator_relation c = λ P R.
    let t = c.commutator_relation in
    let p = c.power_relation in
    let a = c.args in
    let k = c.loop-k.k in
    passed-fails c.loop-k.invariant (omega arith) (λ P R. t.ensures P (word_read R k a.j (omega arith) c.requires.1)) (c.if-not-commutator_relation.true) P R
    ∙ top-rest a.s a.words.now a.d P a.j (p.ensures P R) (c.if-not-power_relation.false)

pub loop-k-preserved : goal.loop-k-preserved
loop-k-preserved c = let t = c.commutator_relation in
    let k = c.loop-k.k in
    passed-more c.loop-k.invariant (λ P R. t.ensures P (word_read R k c.args.j (omega arith) c.requires.1)) (c.if-not-commutator_relation.false)

pub returns : goal.returns
returns c = λ P R.
    let p = c.power_relation in
    let a = c.args in
    passed-all c.loop-k.invariant (omega arith) P R
    ∙ top-rest a.s a.words.now a.d P a.j (p.ensures P R) (c.if-not-power_relation.false)
