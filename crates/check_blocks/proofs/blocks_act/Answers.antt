-- `blocks_act` goes from block to block.
use native.Mathlib.Omega.{arith}
use Rattle.check_blocks.proofs.Blocks.{among-within, going-none, going-whole, going-all, going-fails, going_more}
use Rattle.check_blocks.proofs.blocks_act.Goals as goal

pub loop-o-init : goal.loop-o-init
loop-o-init c = let a = c.args in going-none a.s a.words.now a.i a.d

pub block_at-f-requires : goal.block_at-f-requires
block_at-f-requires c = let a = c.args in
    (c.requires.0, c.requires.1, c.loop-o-test.true, going-whole a.s a.words.now a.i a.d c.requires.0 c.loop-o.invariant c.loop-o-test.true)

pub block_acts-requires : goal.block_acts-requires
block_acts-requires c = (among-within c.requires.0 c.block_at-f.ensures, c.block_at-f.ensures.found.level.1)

pub returns-then-not-block_acts : goal.returns-then-not-block_acts
returns-then-not-block_acts c = let t = c.block_acts in
    let a = c.args in
    going-fails a.s a.words.now a.i a.d c.requires.0 c.loop-o.invariant c.block_at-f.ensures c.loop-o-test.true t.ensures
    (c.if-not-block_acts.true)

pub loop-o-preserved : goal.loop-o-preserved
loop-o-preserved c = let t = c.block_acts in
    let a = c.args in
    going_more a.s a.words.now a.i a.d c.requires.0 c.loop-o.invariant c.block_at-f.ensures c.loop-o-test.true t.ensures
    (c.if-not-block_acts.false)

pub returns : goal.returns
returns c = let a = c.args in
    going-all a.s a.words.now a.i a.d c.requires.0 c.loop-o.invariant (omega (arith, c.loop-o-test.false))
