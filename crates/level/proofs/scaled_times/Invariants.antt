-- `scaled_times`: after so many turns r is what they make of x; turns that keep the basis index add up.
use mathlib.Core.Path.{◌≡◌}
use Prim.Native.Nat.{◌-◌, ◌≤◌}
use Rattle.definitions.specs.Lists.{iter}
use Rattle.definitions.specs.Monomial.{act}
use Rattle.formulas.specs.Formulas.{plus}
use Rattle.level.specs.Stored.{Below, generator_in}
use Rattle.level.proofs.scaled_times.Given as goal

abbrev pub invariant-loop : goal.invariant-loop
invariant-loop l = (1 ≤ l.counter) × (l.r ≡ iter (λ y. plus l.m l.c (act l.m (generator_in l.words l.d l.g) y)) (l.counter - 1) l.initial.r) ×
    Below l.m l.d.deg l.r
