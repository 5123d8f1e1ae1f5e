-- The words are written one by one.
use Rattle.table_writing.proofs.Writes.{WrittenTo}
use Rattle.table_writing.proofs.put_words.Given as goal

abbrev pub invariant-loop-k : goal.invariant-loop-k
invariant-loop-k l = WrittenTo l.words l.initial.out l.at l.k l.out l.next
