-- `slot`: a product of two numbers of 32 bits and a third of them fit in 64.
use mathlib.Core.Path.{◌≡◌, ap₂}
use Prim.Native.Nat.{ℕ, ◌+◌, ◌*◌, ◌≤◌, ◌<◌}
use native.Mathlib.Nat.{mul-le-mul, div-le_self}
use native.Mathlib.Omega.{arith}
use Rattle.claims.proofs.slot.Goals as goal

-- the product as it is formed, and how large it is
product : (x y f p : ℕ) → x ≡ f → y ≡ p → f < 4294967296 → p < 4294967296 → (x * y ≡ f * p) × (f * p ≤ 18446744065119617025)
product x y f p a b l k =
    let l' : f ≤ 4294967295 = omega arith in
    let k' : p ≤ 4294967295 = omega arith in
    (ap₂ (λ x y. x * y) a b, mul-le-mul l' k')

pub overflow_add-result : goal.overflow_add-result
overflow_add-result c = let u = c.up.ensures in
    let (e, h) = product _ _ c.args.f c.args.p u c.up-2.ensures (omega (arith, c.well_formed)) (omega (arith, c.well_formed)) in
    omega (arith, e, h, c.up-3.ensures, div-le_self c.args.e c.args.part, c.well_formed)

pub returns : goal.returns
returns c = let u = c.up.ensures in
    let (e, h) = product _ _ c.args.f c.args.p u c.up-2.ensures (omega (arith, c.well_formed)) (omega (arith, c.well_formed)) in
    ap₂ (λ x y. x + y) e c.up-3.ensures
