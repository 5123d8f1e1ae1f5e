-- No divisor below d has been found.
use mathlib.Core.Path.{sym}
use native.Mathlib.Nat.{mul-le-mul}
use native.Mathlib.Omega.{arith}
use Rattle.conditions.proofs.Primes.{not-prime-small, not-prime-divided, tried-none, tried-more, prime-tried, square-fits, root_below, root-less}
use Rattle.conditions.proofs.prime.is_prime.Goals as goal

pub returns-then-p-lt2 : goal.returns-then-p-lt2
returns-then-p-lt2 c = sym (not-prime-small c.args.p (omega arith))

pub loop-d-init : goal.loop-d-init
loop-d-init c = (omega arith, omega arith, omega arith, tried-none c.args.p)

pub overflow_mul-d : goal.overflow_mul-d
overflow_mul-d c = omega (arith, square-fits c.loop-d.d (omega arith))

pub returns-then-p-d-eq0 : goal.returns-then-p-d-eq0
returns-then-p-d-eq0 c = let p = c.args.p in
    let d = c.loop-d.d in
    sym (not-prime-divided p d (omega arith) (root-less p d (omega arith) (omega arith)) (omega arith))

pub loop-d-preserved : goal.loop-d-preserved
loop-d-preserved c = let l = c.loop-d in
    let low = root_below c.args.p l.d c.requires (omega arith) in
    (omega arith, omega arith, omega arith, tried-more c.args.p l.d l.invariant.3 c.if-p-d-eq0.false)

pub returns-then-p-d : goal.returns-then-p-d
returns-then-p-d c = sym (prime-tried c.args.p c.loop-d.d (omega arith) c.loop-d.invariant.3 (omega arith))

pub returns : goal.returns
returns c = let d = c.loop-d.d in
    sym (prime-tried c.args.p d (omega arith) c.loop-d.invariant.3 (omega (arith, mul-le-mul {n₁ = 2} {m₁ = d} {n₂ = d} {m₂ = d} (omega arith) (omega arith))))
