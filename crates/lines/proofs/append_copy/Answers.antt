-- `append_copy` appends a line for each column, or one line where the degree is 1.
use borrow.Author.Rules.{rules}
use mathlib.Core.Path.{◌≡◌, ap, ◌∙◌}
use Prim.Native.Nat.{◌*◌}
use native.Mathlib.Omega.{arith}
use lib.ListN.{take}
use Rattle.text.proofs.Writing.{wrote_as}
use Rattle.lines.specs.Lines.{head_line, copy_lines}
use Rattle.lines.proofs.Written.{head_line-eight, copy-single}
use Rattle.lines.proofs.Appending.{going_more, going-line, space-none}
use Rattle.lines.proofs.append_copy.Invariants.{turn}
use Rattle.lines.proofs.append_copy.Goals as goal

pub returns-then-h-eq1 : goal.returns-then-h-eq1
returns-then-h-eq1 c = let a = c.args in
    let one = c.if-h-eq1.true in
    let x = c.entry_at-x.ensures in
    wrote_as c.put_line.ensures (ap (head_line a.h 0) x ∙ copy-single _ _ (take (8 * a.low) a.words.now) one)

pub loop-k-init : goal.loop-k-init
loop-k-init c = space-none c.requires.1

pub put_line-pos-requires : goal.put_line-pos-requires
unfolding turn
put_line-pos-requires c = going-line _ (λ k. head_line-eight _ _ _) c.loop-k.invariant (search rules) c.requires.1.room

pub loop-k-preserved : goal.loop-k-preserved
unfolding turn
loop-k-preserved c = let g = c.loop-k.invariant in
    let x = c.entry_at-x-in-loop-k.ensures in
    going_more g (rw (x, g.below) at c.put_line-pos.ensures)

pub returns : goal.returns
unfolding copy_lines turn
returns c = let l = c.loop-k in
    let e : l.k ≡ c.args.h.deg = omega arith in
    rw e at l.invariant.wrote
