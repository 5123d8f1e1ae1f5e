-- The digits are read one by one: `Run` is what has been read.
use Rattle.std.specs.Prelude.{◌-◌, length}
use Rattle.text.proofs.Reading.{Run}
use Rattle.text.proofs.value.Given as goal

abbrev pub invariant-loop-at : goal.invariant-loop-at
invariant-loop-at l = Run l.text l.at l.v l.next

abbrev pub decreases-loop-at : goal.decreases-loop-at
decreases-loop-at l = length l.text - l.next
