-- `times` meets its contract: a product of two words fits in 64 bits.
use native.Mathlib.Omega.{arith}
use Rattle.check_heads.proofs.Places.{product-fits}
use Rattle.check_heads.proofs.times.Goals as goal

pub overflow_mul-result : goal.overflow_mul-result
overflow_mul-result c = let up = c.up in
    let h = product-fits up.result c.up-2.result (omega (arith, up.ensures, c.ranges)) (omega (arith, c.up-2.ensures, c.ranges)) in
    omega (arith, h)
