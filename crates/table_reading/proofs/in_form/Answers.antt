-- The words are read one by one: `Forming` is what has been read.
use native.Mathlib.Omega.{arith}
use Rattle.table_reading.proofs.Forms.{forming-none, forming-more, forming-fails, forming-end}
use Rattle.table_reading.proofs.in_form.Goals as goal

pub loop-at-init : goal.loop-at-init
loop-at-init c = forming-none c.requires

pub returns-in_default : goal.returns-in_default
returns-in_default c = forming-fails c.loop-at.invariant (omega arith) (c.next_word.ensures.fails c.in_default.is)

pub loop-at-smaller : goal.loop-at-smaller
loop-at-smaller c = let w = c.next_word.ensures.stands _ _ c.in-Some.is in
    omega (arith, w.further, w.within)

pub loop-at-preserved : goal.loop-at-preserved
loop-at-preserved c = forming-more c.loop-at.invariant (c.next_word.ensures.stands _ _ c.in-Some.is)

pub returns : goal.returns
returns c = forming-end c.loop-at.invariant (omega arith)
