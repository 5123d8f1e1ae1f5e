-- The bytes are counted word by word.
use native.Mathlib.Omega.{arith}
use Rattle.table_writing.proofs.Writes.{measured-none, measured-more, measured-over, measured-all}
use Rattle.table_writing.proofs.fits.Goals as goal

pub loop-w-init : goal.loop-w-init
loop-w-init c = measured-none

pub returns-then-have-total : goal.returns-then-have-total
returns-then-have-total c = measured-over c.loop-w.invariant c.args.have (omega arith)

pub loop-w-preserved : goal.loop-w-preserved
loop-w-preserved c = measured-more c.loop-w.invariant (omega arith) c.width.ensures.0

pub returns : goal.returns
returns c = measured-all c.loop-w.invariant c.args.have (omega arith)
