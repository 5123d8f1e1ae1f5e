-- `append_block` appends a line for each column, or one line where the degree is 1.
use borrow.Author.Rules.{rules}
use mathlib.Core.Path.{◌≡◌}
use native.Mathlib.Omega.{arith}
use Rattle.lines.specs.Lines.{block_lines}
use Rattle.lines.proofs.Written.{head_line-eight}
use Rattle.lines.proofs.Appending.{going_more, going-line, space-none}
use Rattle.lines.proofs.append_block.Invariants.{turn}
use Rattle.lines.proofs.append_block.Goals as goal

pub loop-k-init : goal.loop-k-init
loop-k-init c = space-none c.requires.1

pub put_line-pos-requires : goal.put_line-pos-requires
unfolding turn
put_line-pos-requires c = going-line _ (λ k. head_line-eight _ _ _) c.loop-k.invariant (search rules) c.requires.1.room

pub loop-k-preserved : goal.loop-k-preserved
unfolding turn
loop-k-preserved c = let g = c.loop-k.invariant in
    let x = c.block_entry-x.ensures in
    going_more g (rw (x, g.below) at c.put_line-pos.ensures)

pub returns : goal.returns
unfolding block_lines turn
returns c = let l = c.loop-k in
    let e : l.k ≡ c.args.b.deg = omega arith in
    rw e at l.invariant.wrote
