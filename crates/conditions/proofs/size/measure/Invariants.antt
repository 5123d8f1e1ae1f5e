-- The order so far is the product of the primes so far, and the elements are those of the levels so far.
use mathlib.Core.Path.{◌≡◌}
use Prim.Native.Nat.{suc, ◌*◌, ◌≤◌}
use Rattle.definitions.specs.Lists.{sum}
use Rattle.definitions.specs.Presentation.{max_generators, max_order}
use Rattle.conditions.specs.Conditions.{product}
use Rattle.conditions.proofs.size.measure.Given as goal

abbrev pub invariant-loop-p : goal.invariant-loop-p
invariant-loop-p l = (l.order ≡ product l.primes l.p-index) × (l.elements ≡ sum l.p-index (λ i. product l.primes (suc i))) × (l.elements ≤ l.p-index * max_order) ×
    (l.p-index ≤ l.n) × (l.n ≤ max_generators)
