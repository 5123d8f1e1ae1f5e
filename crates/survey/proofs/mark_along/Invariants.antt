-- `mark_along`: q is member k of the orbit, and the members before it are marked.
use mathlib.Core.Path.{◌≡◌}
use Rattle.definitions.specs.Lists.{iter}
use Rattle.survey.specs.Below.{deg_of, target_of, Marking}
use Rattle.survey.proofs.mark_along.Given as goal

abbrev pub invariant-loop-k : goal.invariant-loop-k
invariant-loop-k l = (l.q ≡ iter (target_of l.f l.low l.f.top) l.k l.r) × Marking l.f l.low l.initial.notes l.notes l.r l.k × (l.d.deg ≡ deg_of l.f l.low l.q)
