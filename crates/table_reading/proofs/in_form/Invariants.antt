-- The words are read one by one: `Forming` is what has been read.
use Prim.Native.Nat.{◌-◌}
use lib.ListN.{length}
use Rattle.table_reading.proofs.Forms.{Forming}
use Rattle.table_reading.proofs.in_form.Given as goal

abbrev pub invariant-loop-at : goal.invariant-loop-at
invariant-loop-at l = Forming l.text l.start l.at l.k

abbrev pub decreases-loop-at : goal.decreases-loop-at
decreases-loop-at l = length l.text - l.at
