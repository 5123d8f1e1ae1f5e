-- `column_heads` meets its contract: line after line, each d behind the one before.
use mathlib.Core.Path.{refl}
use native.Mathlib.Omega.{arith}
use Rattle.check_heads.proofs.Places.{columned-room, columned-more, columned-fails, columned-all}
use Rattle.check_heads.proofs.column_heads.Goals as goal

pub returns-then-not-head_is : goal.returns-then-not-head_is
returns-then-not-head_is c = let a = c.args in
    let up = c.up.ensures in
    columned-fails c.loop-kind.invariant (omega (arith, c.up-deg.ensures, c.up-deg.ensures)) c.head_is.ensures refl
    (c.if-not-head_is.true) a.p (omega (arith, up)) (omega (arith, up)) a.n
    (omega (arith, c.up-2.ensures, c.up-deg.ensures, c.loop-kind-test.true))

pub overflow_add-at : goal.overflow_add-at
overflow_add-at c = let room = columned-room c.loop-kind.invariant c.requires.1
    (omega (arith, c.up-2.ensures, c.up-deg.ensures, c.loop-kind-test.true)) in
    omega (arith, room, c.well_formed, c.up-deg.ensures)

pub loop-kind-preserved : goal.loop-kind-preserved
loop-kind-preserved c = columned-more c.loop-kind.invariant (omega (arith, c.up-deg.ensures, c.up-deg.ensures)) c.head_is.ensures refl
    (c.if-not-head_is.false) (omega (arith, c.up-deg.ensures))

pub returns : goal.returns
returns c = let a = c.args in
    let up = c.up.ensures in
    columned-all c.loop-kind.invariant a.p (omega (arith, up)) (omega (arith, up)) a.n
    (omega (arith, c.up-2.ensures, c.up-deg.ensures, c.loop-kind-test.false))
