-- `find` meets its contract: the place that is sought stays between the two ends.
use mathlib.Core.Path.{sym, ◌∙◌}
use Prim.Native.Nat.{◌+◌, ◌-◌, ◌/◌}
use native.Mathlib.Omega.{arith}
use Rattle.seek.proofs.Halves.{line-there, halved-low, halved-high, halved-all}
use Rattle.seek.proofs.find.Goals as goal

pub stands_before-requires : goal.stands_before-requires
stands_before-requires c = line-there c.args.words.now (c.loop-lo.lo + (c.loop-lo.hi - c.loop-lo.lo) / 2) (omega (arith, c.loop-lo.invariant.inside))

pub loop-lo-preserved-then-stands_before : goal.loop-lo-preserved-then-stands_before
loop-lo-preserved-then-stands_before c = let a = c.args in
    halved-low a.words.now a.i a.r c.loop-lo.lo c.loop-lo.hi (c.loop-lo.lo + (c.loop-lo.hi - c.loop-lo.lo) / 2)
    c.loop-lo.invariant (omega arith) (sym c.stands_before.ensures ∙ c.if-stands_before.true)

pub loop-lo-preserved : goal.loop-lo-preserved
loop-lo-preserved c = let a = c.args in
    halved-high a.words.now a.i a.r c.loop-lo.lo c.loop-lo.hi (c.loop-lo.lo + (c.loop-lo.hi - c.loop-lo.lo) / 2)
    c.loop-lo.invariant (omega arith) (sym c.stands_before.ensures ∙ c.if-stands_before.false)

pub returns : goal.returns
returns c = halved-all c.args.words.now c.args.i c.args.r c.loop-lo.lo c.loop-lo.hi c.loop-lo.invariant (omega arith) c.requires.1
