-- The order so far is the product of the primes so far, and at most the ceiling.
use mathlib.Core.Path.{sym, ◌∙◌}
use Prim.Native.Nat.{◌+◌, ◌*◌}
use native.Mathlib.Nat.{mul-le-mul}
use native.Mathlib.Omega.{arith}
use Rattle.std.proofs.lemmas.List.{get_or-take}
use Rattle.definitions.specs.Presentation.{max_order}
use Rattle.conditions.proofs.Conditions.{product-zero, product-turn, order-exceeds, order-within}
use Rattle.conditions.proofs.judge.order_fits.Goals as goal

pub loop-p-init : goal.loop-p-init
loop-p-init c = (sym (product-zero c.args.primes.now), omega arith, omega arith)

pub overflow_mul-order : goal.overflow_mul-order
overflow_mul-order c = omega (arith, mul-le-mul {n₁ = c.loop-p.order} {m₁ = c.wide-order.result} {n₂ = max_order} {m₂ = 4294967296} (omega arith) (omega arith))

pub returns-then-order : goal.returns-then-order
returns-then-order c = let loop = c.loop-p in
    let next = c.wide-order in
    let is = next.ensures.0 ∙ get_or-take c.args.n c.args.primes.now loop.p-index 0 (omega arith) in
    let turn = product-turn c.args.primes.now loop.p-index loop.order next.result loop.invariant.0 is in
    sym (order-exceeds c.args.primes.now (loop.p-index + 1) c.args.n (loop.order * next.result) (omega arith) c.requires.by_index turn (omega arith))

pub loop-p-preserved : goal.loop-p-preserved
loop-p-preserved c = let loop = c.loop-p in
    let a = c.args in
    let is = c.wide-order.ensures.0 ∙ get_or-take a.n a.primes.now loop.p-index 0 (omega arith) in
    (product-turn a.primes.now loop.p-index loop.order c.wide-order.result loop.invariant.0 is, omega arith, omega arith)

pub returns : goal.returns
returns c = let a = c.args in
    let h = c.loop-p.invariant in
    sym (order-within a.primes.now c.loop-p.p-index a.n c.loop-p.order (omega arith) h.0 h.1)
