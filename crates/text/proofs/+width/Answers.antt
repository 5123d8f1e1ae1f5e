-- One digit, or one more than a tenth of the value has.
use mathlib.Core.Path.{◌≡◌, ap}
use Prim.Native.Nat.{◌+◌}
use native.Mathlib.Omega.{arith}
use lib.ListN.{length}
use Rattle.definitions.specs.Text.{decimal}
use Rattle.definitions.proofs.Rendering.{tenth-less, decimal-one, decimal-length, decimal-length-more}
use Rattle.text.proofs.+width.Goals as goal

pub returns-then-v-lt10 : goal.returns-then-v-lt10
returns-then-v-lt10 t c = let l = ap length (decimal-one c.args.v (omega arith)) in (omega arith, omega arith)

pub width-requires : goal.width-requires
width-requires t c = omega (arith, tenth-less c.args.v (omega arith))

pub returns : goal.returns
returns t c =
    let v = c.args.v in
    let q : c.width.result + 1 ≡ length (decimal v) = omega (arith, decimal-length-more v (omega arith)) in
    (q, omega (arith, (decimal-length 9 v).1 (omega arith)))
