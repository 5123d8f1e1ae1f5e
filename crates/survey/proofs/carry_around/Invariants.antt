-- `carry_around`: after so many steps the entry is that of the formulas.
use mathlib.Core.Path.{◌≡◌}
use Rattle.definitions.specs.Lists.{iter}
use Rattle.survey.specs.Below.{target_of, around_in, CarriedAt}
use Rattle.survey.proofs.carry_around.Given as goal

abbrev pub invariant-loop : goal.invariant-loop
invariant-loop l = (l.s.rep ≡ iter (target_of l.f l.low l.f.top) l.counter l.r) × (l.s.x ≡ around_in l.f l.low l.r l.counter) × CarriedAt l.f l.low l.d.deg l.s
