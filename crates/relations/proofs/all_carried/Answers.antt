-- `all_carried` tests the generators of the level one by one.
use native.Mathlib.Omega.{arith}
use Rattle.numbers.proofs.Passed.{passed-more, passed-all, passed-fails}
use Rattle.relations.proofs.all_carried.Goals as goal

pub returns-then-not-carried : goal.returns-then-not-carried
returns-then-not-carried c = let t = c.carried in
    let k = c.loop-k.k in
    passed-fails c.loop-k.invariant (omega arith) (λ P S. t.ensures P (S.word k c.args.j (omega arith) c.requires.4)) (c.if-not-carried.true)

pub loop-k-preserved : goal.loop-k-preserved
loop-k-preserved c = let t = c.carried in
    let k = c.loop-k.k in
    passed-more c.loop-k.invariant (λ P S. t.ensures P (S.word k c.args.j (omega arith) c.requires.4)) (c.if-not-carried.false)

pub returns : goal.returns
returns c = passed-all c.loop-k.invariant (omega arith)
