-- Each order is the one before it times a prime.
use Prim.Native.Nat.{◌≤◌}
use Rattle.definitions.specs.Presentation.{max_generators}
use Rattle.conditions.specs.Size.{LevelOrders}
use Rattle.conditions.proofs.size.level_orders.Given as goal

abbrev pub invariant-loop-j : goal.invariant-loop-j
invariant-loop-j l = LevelOrders l.primes l.j l.r × (l.j ≤ l.n) × (l.n ≤ max_generators)
