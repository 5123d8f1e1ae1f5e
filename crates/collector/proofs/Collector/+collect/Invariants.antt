-- `multiply` and the functions that call it and that it calls meet their contracts: the one proof of their
-- cycle of calls. A product on level i turns forms of a level below i, and carries on a level below i; turning and
-- conjugation on level k take images, powers and products on levels up to k; a power is taken by products on its own level.
-- The measures are eight times the level, and up to five more.
use Prim.Native.Nat.{◌+◌, ◌*◌}
use Rattle.collector.specs.Products.{Power}
use Rattle.collector.proofs.Steps.{Turning}
use Rattle.collector.proofs.Collector.+collect.Given as goal

abbrev pub decreases-carry : goal.decreases-carry
decreases-carry l = 8 * l.k + 2

abbrev pub decreases-conjugate : goal.decreases-conjugate
decreases-conjugate l = 8 * l.k + 3

abbrev pub decreases-image : goal.decreases-image
decreases-image l = 8 * l.l + 2

abbrev pub decreases-multiply : goal.decreases-multiply
decreases-multiply l = 8 * l.i

abbrev pub decreases-power : goal.decreases-power
decreases-power l = 8 * l.i + 2

abbrev pub decreases-product : goal.decreases-product
decreases-product l = 8 * l.i + 1

abbrev pub decreases-turn : goal.decreases-turn
decreases-turn l = 8 * l.k + 5

abbrev pub decreases-turned : goal.decreases-turned
decreases-turned l = 8 * l.i + 4

abbrev pub invariant-power-loop-n : goal.invariant-power-loop-n
invariant-power-loop-n l = Power l.i l.self.primes.now l.self.rows.now l.x l.r l._n

abbrev pub invariant-turned-loop-left : goal.invariant-turned-loop-left
invariant-turned-loop-left l = Turning l.i l.b l.self.primes.now l.self.rows.now l.x l.c l.n l.left

abbrev pub decreases-turned-loop-left : goal.decreases-turned-loop-left
decreases-turned-loop-left l = l.left
