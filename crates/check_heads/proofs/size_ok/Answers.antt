-- `size_ok` meets its contract: the level, the degree, its square, its lines.
use mathlib.Core.Path.{ap}
use Prim.Native.Nat.{◌*◌, ◌≤◌}
use native.Mathlib.Omega.{arith}
use Rattle.numbers.proofs.Bools.{refuted}
use Rattle.check_heads.specs.Places.{orders_in}
use Rattle.check_heads.proofs.Places.{size-told, size-last}
use Rattle.check_heads.proofs.size_ok.Goals as goal

pub returns-then-s-p : goal.returns-then-s-p
returns-then-s-p c = refuted _ (λ h. omega (arith, (size-told c.args.s (orders_in c.args.orders.now) c.args.p c.args.d h).level))

pub returns-then-d-eq0 : goal.returns-then-d-eq0
returns-then-d-eq0 c = refuted _ (λ h. omega (arith, (size-told c.args.s (orders_in c.args.orders.now) c.args.p c.args.d h).positive))

pub returns-then-up-times : goal.returns-then-up-times
returns-then-up-times c = let up2 = c.up in
    let ord = orders_in c.args.orders.now in
    let e = ap ord c.up-i.ensures in
    refuted _ (λ h. omega (arith, e, up2.ensures, c.times.ensures, (size-told c.args.s ord c.args.p c.args.d h).square))

pub returns : goal.returns
returns c = let times2 = c.times-2 in
    let up2 = c.up in
    let if1 = c.if-s-p in
    let e = ap (orders_in c.args.orders.now) c.up-i.ensures in
    let square : c.args.d * c.args.d ≤ orders_in c.args.orders.now c.args.p.level =
    omega (arith, e, up2.ensures, c.times.ensures, c.if-up-times.false) in
    size-last c.args.s (orders_in c.args.orders.now) c.args.p c.args.d times2.result times2.ensures
    (omega (arith, if1.false)) (omega (arith, c.if-d-eq0.false)) square
