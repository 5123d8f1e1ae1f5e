-- `line_is` compares words two by two.
use borrow.Author.Tests.{eqb-true}
use Prim.Native.Nat.{◌+◌, ◌*◌}
use native.Mathlib.Omega.{arith}
use Rattle.check_first.proofs.line_is.Goals as goal

pub returns : goal.returns
returns c = λ e.
    let a = c.two_at.ensures in
    let b = c.two_at-2.ensures in
    let q = c.if-two_at-k.false in
    let h = eqb-true c.two_at-2.result (1 + c.up.result * 4294967296) e in
    let g = c.up.ensures in
    record {
      level = omega (arith, a.is, a.low, q);
      rep = omega (arith, a.is, a.low, q);
      deg = omega (arith, b.is, b.low, h, g);
      gen = omega (arith, b.is, b.low, h, g);
    }
