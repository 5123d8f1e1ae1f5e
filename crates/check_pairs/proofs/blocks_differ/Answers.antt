-- `blocks_differ` walks the blocks and counts them.
use native.Mathlib.Omega.{arith}
use Rattle.check_pairs.proofs.Blocks.{line-none, line-there, line-refers, line-fits, line-more, line-fails, line-all}
use Rattle.check_pairs.proofs.blocks_differ.Goals as goal

pub loop-o-init : goal.loop-o-init
loop-o-init c = line-none c.requires.1

pub fresh_at-requires : goal.fresh_at-requires
fresh_at-requires c = line-there c.requires.1 c.loop-o.invariant (omega arith)

pub returns-then-not-fresh_at : goal.returns-then-not-fresh_at
returns-then-not-fresh_at c = let t = c.fresh_at in
    line-fails c.requires.1 c.loop-o.invariant (omega arith) c.args.p t.ensures (c.if-not-fresh_at.true)

pub width-o-requires : goal.width-o-requires
width-o-requires c = line-refers c.requires.1 c.loop-o.invariant (omega arith)

pub overflow_add-o : goal.overflow_add-o
overflow_add-o c = omega (arith, line-fits c.requires.1 c.loop-o.invariant (omega arith) c.width-o.ensures.0)

pub loop-o-preserved : goal.loop-o-preserved
loop-o-preserved c = let t = c.fresh_at in
    line-more c.requires.1 c.loop-o.invariant (omega arith) t.ensures (c.if-not-fresh_at.false) c.width-o.ensures.0

pub returns : goal.returns
returns c = line-all c.requires.1 c.args.p c.loop-o.invariant (omega arith)
