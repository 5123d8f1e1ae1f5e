-- `cycle_times`: after so many turns t is what they make of s.
use Rattle.definitions.specs.Lists.{iter}
use Rattle.orbits.specs.Sides.{moved_of, EntryIs, cycle_in}
use Rattle.orbits.proofs.cycle_times.Given as goal

abbrev pub invariant-loop : goal.invariant-loop
invariant-loop l = EntryIs l.f l.low l.r (iter (cycle_in l.f l.low l.c l.r) l.counter (moved_of l.initial.t)) l.t
