-- `level_adds_up` takes the squares from the order, one representation behind the other.
use mathlib.Core.Path.{refl, sym, subst}
use Prim.Native.Nat.{◌+◌}
use native.Mathlib.Omega.{arith}
use Rattle.seek.proofs.Walk.{walked-none, walked-found, walked-more, walked-all}
use Rattle.check_blocks.proofs.Squares.{Left, left-none, left-more, left-fails, left-all}
use Rattle.check_blocks.proofs.level_adds_up.Goals as goal

pub loop-d-init : goal.loop-d-init
loop-d-init c = let a = c.args in
    walked-none c.of-d-items.ensures c.into_iter-d-iterator.ensures.into_iter_gives
    (left-none a.s.gens a.words.now a.i a.order c.up-left.result c.up-left.ensures)

pub returns-in_default : goal.returns-in_default
returns-in_default c = let a = c.args in
    let F = walked-found c.loop-d.invariant _ refl c.in-Some.ensures.steps in
    left-fails a.s.gens a.words.now a.i a.order c.loop-d.invariant.known F c.square.result c.square.ensures (omega (arith, c.in_default.ensures))

pub loop-d-preserved : goal.loop-d-preserved
loop-d-preserved c = let a = c.args in
    let W = c.loop-d.invariant in
    let F = walked-found W _ refl c.in-Some.ensures.steps in
    let (room, rest) = c.in-Some-checked_sub.ensures in
    let L = left-more a.s.gens a.words.now a.i a.order W.known F c.square.result c.square.ensures room in
    walked-more W refl c.in-Some.ensures.steps (subst (λ x. Left a.s.gens a.words.now a.i a.order x (c.loop-d.d-iterator.rep + 1)) (sym rest) L)

pub returns : goal.returns
returns c = let a = c.args in
    left-all a.s.gens a.words.now a.i a.order (walked-all c.loop-d.invariant c.next.new.self refl c.in-None.ensures.steps) refl
