-- `append_root` appends a line for each generator.
use mathlib.Core.Path.{◌≡◌}
use native.Mathlib.Omega.{arith}
use borrow.Author.Rules.{rules}
use Rattle.text.proofs.Writing.{wrote_as}
use Rattle.lines.specs.Lines.{head_line}
use Rattle.lines.proofs.Appending.{going-none, going_more, going-line}
use Rattle.first.specs.Roots.{root_words}
use Rattle.first.proofs.Lines.{root_line-is, root_line-length}
use Rattle.first.proofs.append_root.Goals as goal

pub loop-g-init : goal.loop-g-init
loop-g-init c = going-none (omega arith) (omega arith)

pub put_line-pos-requires : goal.put_line-pos-requires
put_line-pos-requires c = let long = root_line-length c.args.n c.args.p c.args.m c.args.rows.now c.args.k in
    going-line _ long c.loop-g.invariant (search rules) c.requires.5

pub loop-g-preserved : goal.loop-g-preserved
unfolding head_line
loop-g-preserved c = let l = c.loop-g in
    let line = root_line-is c.args.n c.args.p c.args.m c.args.rows.now c.args.k l.g _ _ c.reference-refn.ensures c.exponent-exp.ensures in
    going_more l.invariant (wrote_as c.put_line-pos.ensures line)

pub returns : goal.returns
unfolding root_words
returns c = let e : c.loop-g.g ≡ c.args.n = omega arith in rw e at c.loop-g.invariant.wrote
