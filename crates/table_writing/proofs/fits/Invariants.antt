-- The bytes are counted word by word.
use Rattle.table_writing.proofs.Writes.{MeasuredText}
use Rattle.table_writing.proofs.fits.Given as goal

abbrev pub invariant-loop-w : goal.invariant-loop-w
invariant-loop-w l = MeasuredText l.words l.first l.w-index l.total
