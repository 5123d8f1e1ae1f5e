-- `alone` meets its contract: both scans find no exponent.
use mathlib.Core.Path.{subst}
use Prim.Native.Nat.{◌-◌}
use native.Mathlib.Omega.{arith}
use borrow.Author.Tests.{eqb-true}
use Rattle.rows.specs.Rows.{Top}
use Rattle.collector.proofs.Collector.alone.Goals as goal

pub returns : goal.returns
returns c = let m = c.args.m in
    let u = c.word-u in
    let t = c.top in
    record {
      is = λ e. (
        omega (arith, c.if-m-eq0.false),
        subst (Top (m - 1) c.args.x) c.if-top-ne0.false t.ensures,
        subst (λ w. Top (m - 1) w 0) u.ensures (subst (Top (m - 1) u.result) (eqb-true _ 0 e) c.top-2.ensures),
      );
    }
