-- Each order is the one before it times a prime.
use mathlib.Core.Path.{refl}
use native.Mathlib.Omega.{arith}
use Rattle.conditions.proofs.Conditions.{product-turn, turn-fits, orders-none, orders-more, orders-all}
use Rattle.conditions.proofs.size.level_orders.Goals as goal

pub loop-j-init : goal.loop-j-init
loop-j-init c = (orders-none, omega arith, omega arith)

pub overflow_mul-r : goal.overflow_mul-r
overflow_mul-r c = let l = c.loop-j in
    omega (arith, turn-fits c.args.primes.now c.args.n l.j _ _ c.requires.by_index (omega arith) (l.invariant.0.each l.j (omega arith)) refl)

pub loop-j-preserved : goal.loop-j-preserved
loop-j-preserved c = let ps = c.args.primes.now in
    let l = c.loop-j in
    let e = product-turn ps l.j _ _ (l.invariant.0.each l.j (omega arith)) refl in
    (orders-more _ l.invariant.0 (omega arith) e, omega arith, omega arith)

pub returns : goal.returns
returns c = orders-all c.loop-j.invariant.0 (omega arith)
