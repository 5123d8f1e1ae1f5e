-- The words are stored one by one: `Filling` is what has been stored.
use Prim.Native.Nat.{◌-◌}
use lib.ListN.{length}
use Rattle.table_reading.proofs.Forms.{Filling}
use Rattle.table_reading.proofs.fill.Given as goal

abbrev pub invariant-loop-at : goal.invariant-loop-at
invariant-loop-at l = Filling l.text l.start l.initial.words l.at l.k l.words

abbrev pub decreases-loop-at : goal.decreases-loop-at
decreases-loop-at l = length l.text - l.at
