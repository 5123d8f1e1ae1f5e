-- `pairs_apart` goes through the representations of the level.
use native.Mathlib.Omega.{arith}
use Rattle.check_pairs.proofs.Levels.{level-fails, level_holds}
use Rattle.check_pairs.proofs.pairs_apart.Goals as goal

pub returns-then-not-stands_apart : goal.returns-then-not-stands_apart
returns-then-not-stands_apart c = let a = c.args in
    let t = c.stands_apart in
    let n = c.count_of-reps.ensures in
    level-fails a.s a.words.now a.i a.p c.loop-r.invariant (omega (arith, n)) t.ensures (c.if-not-stands_apart.true)

pub returns : goal.returns
returns c = let a = c.args in
    let n = c.count_of-reps.ensures in
    level_holds a.s a.words.now a.i a.p c.loop-r.invariant (omega (arith, n))
