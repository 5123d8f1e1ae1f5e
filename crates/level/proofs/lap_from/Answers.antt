-- `lap_from`: after each turn the basis index had not come again before it.
use Rattle.level.proofs.Laps.{lapping-once, lapping-more}
use Rattle.level.proofs.lap_from.Goals as goal

pub loop-to-init : goal.loop-to-init
loop-to-init c = lapping-once c.requires.holds.0 c.requires.below c.requires.holds.1 c.apply-to.ensures.0 c.apply-to.ensures.1

pub loop-to-preserved : goal.loop-to-preserved
loop-to-preserved c = let A = c.apply-to-in-loop-to.ensures in
    lapping-more c.requires.holds.0 c.requires.below c.loop-to.invariant c.loop-to-test.true (c.if-turns-most.true) A.0 A.1
