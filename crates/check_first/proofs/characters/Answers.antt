-- `characters` sees to it that the modulus is a multiple of the prime, and that marks and lines are there.
use mathlib.Core.Path.{◌∙◌, ap}
use Prim.Native.Nat.{◌*◌}
use native.Mathlib.Omega.{arith}
use Rattle.check_first.specs.First.{Parted}
use Rattle.check_first.proofs.Marks.{product-positive}
use Rattle.check_first.proofs.characters.Goals.{Else-many-up}

parted : (e : Else-many-up) → let a = e.args in Parted a.s a.words.now e.up-many.result e.up-part.result
parted e = let q = e.if-many-part.false ∙ e.up-3.ensures in
    record {
      counted = e.requires.0;
      room = omega (arith, ap (λ n. e.up-many.result * n) e.up-4.ensures, e.if-many-up.false, e.requires.0.lines_are);
      product = q;
      positive = product-positive e.up-many.result e.up-part.result e.args.s.m q e.requires.1;
      small = omega (arith, e.if-up-gt-ORDER.false, e.up.ensures);
    }
