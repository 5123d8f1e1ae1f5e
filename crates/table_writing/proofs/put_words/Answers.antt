-- The words are written one by one.
use native.Mathlib.Omega.{arith}
use Rattle.text.proofs.Writing.{wrote-length}
use Rattle.table_writing.proofs.Writes.{written_none, written-room, written-more, written_all}
use Rattle.table_writing.proofs.put_words.Goals as goal

pub loop-k-init : goal.loop-k-init
loop-k-init c = written_none c.requires

pub put_value-behind-requires : goal.put_value-behind-requires
put_value-behind-requires c = omega (arith, written-room c.loop-k.invariant (omega arith))

pub put_byte-next-requires : goal.put_byte-next-requires
put_byte-next-requires c = let w = c.put_value-behind.ensures in
    omega (arith, written-room c.loop-k.invariant (omega arith), w.end, wrote-length w)

pub loop-k-preserved : goal.loop-k-preserved
loop-k-preserved c = let l = c.loop-k in
    written-more l.invariant (omega arith) c.separator.ensures c.put_value-behind.ensures c.put_byte-next.ensures

pub shape_of-out : goal.shape_of-out
shape_of-out c = wrote-length c.loop-k.invariant.wrote

pub returns : goal.returns
returns c = written_all c.loop-k.invariant (omega arith)
