-- `start_of` finds the first representation of the level.
use native.Mathlib.Omega.{arith}
use Rattle.seek.proofs.Seek.{whole-some}
use Rattle.seek.proofs.start_of.Goals as goal

pub found-d-requires : goal.found-d-requires
found-d-requires c = let (W, l) = c.requires in
    (W, omega (arith, c.if-i-eq0.false), l, whole-some c.args.s c.args.words.now W c.args.i (omega (arith, c.if-i-eq0.false)) l)
