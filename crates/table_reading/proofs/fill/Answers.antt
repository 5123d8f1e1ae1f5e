-- The words are stored one by one: `Filling` is what has been stored.
use native.Mathlib.Omega.{arith}
use Rattle.table_reading.proofs.Forms.{filling-none, filling-length, filling-below, filling-known, filling-more, filling-end}
use Rattle.table_reading.proofs.fill.Goals as goal

pub loop-at-init : goal.loop-at-init
loop-at-init c = filling-none c.requires

pub shape_of-words-in_default : goal.shape_of-words-in_default
shape_of-words-in_default c = filling-length c.loop-at.invariant

pub returns-in_default : goal.returns-in_default
returns-in_default c = absurd (filling-known c.loop-at.invariant (omega arith) (c.next_word.ensures.fails c.in_default.is))

pub offset_bounds-words-k : goal.offset_bounds-words-k
offset_bounds-words-k c = let h = c.loop-at.invariant in
    omega (arith, filling-below h (omega arith), h.room)

pub bounds-words-k : goal.bounds-words-k
bounds-words-k c = let h = c.loop-at.invariant in
    omega (arith, filling-below h (omega arith), filling-length h, h.room)

pub overflow_add-k : goal.overflow_add-k
overflow_add-k c = let h = c.loop-at.invariant in
    omega (arith, filling-below h (omega arith), h.room)

pub loop-at-smaller : goal.loop-at-smaller
loop-at-smaller c = let w = c.next_word.ensures.stands _ _ c.in-Some.is in
    omega (arith, w.further, w.within)

pub loop-at-preserved : goal.loop-at-preserved
loop-at-preserved c = filling-more c.loop-at.invariant (omega arith) (c.next_word.ensures.stands _ _ c.in-Some.is)

pub shape_of-words : goal.shape_of-words
shape_of-words c = filling-length c.loop-at.invariant

pub returns : goal.returns
returns c = filling-end c.loop-at.invariant (omega arith)
