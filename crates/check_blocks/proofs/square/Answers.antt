-- `square` fits in 64 bits.
use mathlib.Core.Path.{ap₂}
use Prim.Native.Nat.{ℕ, ◌*◌}
use native.Mathlib.Nat.{mul-le-mul}
use native.Mathlib.Omega.{arith}
use Rattle.check_blocks.proofs.square.Goals as goal

pub overflow_mul-result : goal.overflow_mul-result
overflow_mul-result c = let d = c.args.d in
    let e = ap₂ (λ (a b : ℕ). a * b) c.up.ensures c.up-2.ensures in
    omega (arith, e, mul-le-mul {n₁ = d} {m₁ = d} {n₂ = 4294967295} {m₂ = 4294967295} (omega arith) (omega arith))
