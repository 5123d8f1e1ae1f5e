-- `squares_hold` tests the levels one by one.
use mathlib.Core.Path.{refl, ap}
use Prim.Native.Nat.{◌+◌}
use native.Mathlib.Omega.{arith}
use Rattle.numbers.proofs.Passed.{passed-more}
use Rattle.check_blocks.proofs.Squares.{adds-told, adds-fails, adds-holds}
use Rattle.check_blocks.proofs.squares_hold.Goals as goal

pub returns-then-not-level_adds_up : goal.returns-then-not-level_adds_up
returns-then-not-level_adds_up c = let t = c.level_adds_up in
    let a = c.args in
    adds-fails a.s a.orders.now a.words.now (omega arith) (c.up.result + 1) _ (ap (λ i. i + 1) c.up.ensures) refl t.ensures
    c.loop-i.invariant (c.if-not-level_adds_up.true)

pub loop-i-preserved : goal.loop-i-preserved
loop-i-preserved c = let t = c.level_adds_up in
    let a = c.args in
    let told = adds-told a.s a.orders.now a.words.now (omega arith) (c.up.result + 1) _ (ap (λ i. i + 1) c.up.ensures) refl t.ensures in
    passed-more c.loop-i.invariant (λ P O. told P O.ordered) (c.if-not-level_adds_up.false)

pub returns : goal.returns
returns c = let a = c.args in
    adds-holds a.s a.orders.now a.words.now c.loop-i.invariant (omega arith)
