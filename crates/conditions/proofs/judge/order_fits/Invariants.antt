-- The order so far is the product of the primes so far, and at most the ceiling.
use mathlib.Core.Path.{◌≡◌}
use Prim.Native.Nat.{◌≤◌}
use Rattle.definitions.specs.Presentation.{max_order}
use Rattle.conditions.specs.Conditions.{product}
use Rattle.conditions.proofs.judge.order_fits.Given as goal

abbrev pub invariant-loop-p : goal.invariant-loop-p
invariant-loop-p l = (l.order ≡ product l.primes l.p-index) × (l.order ≤ max_order) × (l.p-index ≤ l.n)
