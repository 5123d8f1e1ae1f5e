-- The bytes are counted one by one.
use Rattle.std.proofs.Common.{rules, ◌≡◌, cond, get_or}
use lib.Dec.{eqb}
use Rattle.table_reading.proofs.Forms.{counted_none, counted-more, counted-all}
use Rattle.table_reading.proofs.count_newlines.Goals as goal

pub loop-b-init : goal.loop-b-init
loop-b-init c = counted_none

pub loop-b-preserved : goal.loop-b-preserved
loop-b-preserved c = let one : c.from-n.result ≡ cond (eqb (get_or c.args.text.now c.loop-b.b-index 0) 10) 1 0 = search rules in
    counted-more c.loop-b.invariant c.loop-b-test.true one

pub returns : goal.returns
returns c = counted-all c.loop-b.invariant c.loop-b-test.false
