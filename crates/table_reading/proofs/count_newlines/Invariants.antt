-- The bytes are counted one by one.
use Rattle.table_reading.proofs.Forms.{CountedLines}
use Rattle.table_reading.proofs.count_newlines.Given as goal

abbrev pub invariant-loop-b : goal.invariant-loop-b
invariant-loop-b l = CountedLines l.text l.b-index l.n
