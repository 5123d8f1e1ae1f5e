-- `steps`: after so many turns r is what they make of x.
use mathlib.Core.Path.{◌≡◌}
use Rattle.definitions.specs.Lists.{iter}
use Rattle.definitions.specs.Monomial.{act}
use Rattle.level.specs.Stored.{matrix_in, Below}
use Rattle.level.proofs.steps.Given as goal

abbrev pub invariant-loop : goal.invariant-loop
invariant-loop l = (l.r ≡ iter (act l.m (matrix_in l.words l.at l.d)) l.counter l.initial.r) × Below l.m l.d l.r
