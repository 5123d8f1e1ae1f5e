-- The exponents are read one by one: `Going` is what has been read.
use Rattle.reader.proofs.Words.{ReadTo}
use Rattle.reader.proofs.exponents.Given as goal

abbrev pub invariant-loop-k : goal.invariant-loop-k
invariant-loop-k l = ReadTo l.text l.at l.n l.k l.next l.kept
