-- `lap_from`: after each turn the basis index had not come again before it.
use Prim.Native.Nat.{◌-◌}
use Rattle.level.specs.Laps.{Lapping}
use Rattle.level.proofs.lap_from.Given as goal

abbrev pub invariant-loop-to : goal.invariant-loop-to
invariant-loop-to l = Lapping l.m l.words l.at l.d l.most l.x (record { turns = l.turns; to = l.to })

abbrev pub decreases-loop-to : goal.decreases-loop-to
decreases-loop-to l = l.most - l.turns
