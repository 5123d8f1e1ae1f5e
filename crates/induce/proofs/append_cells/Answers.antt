-- `append_cells` appends the blocks of a generator one behind the other.
use Prim.Native.Nat.{◌*◌, ◌<◌}
use Rattle.lines.proofs.Appending.{going_more, going-even, space-none}
use Rattle.survey.specs.Below.{low_of}
use Rattle.induce.specs.Inducing.{cell_in, cells_in}
use Rattle.induce.proofs.Cells.{cell-length}
use borrow.Author.Rules.{rules}
use Rattle.induce.proofs.append_cells.Goals as goal

pub loop-b-init : goal.loop-b-init
loop-b-init c = space-none c.requires.1

pub append_cell-pos-requires : goal.append_cell-pos-requires
unfolding cells_in
append_cell-pos-requires c = let l = c.loop-b in let f = c.args.f in let i = c.args.i in
    let less-than : l.b < f.p = search rules in
    let W = low_of f c.args.words.now in
    let cell = cell_in f W c.args.notes.now c.args.blocks.now i c.args.g c.args.x in
    let space = going-even f.p (8 * i.deg) (λ b. cell-length f W i c.args.g (cell b)) l.invariant less-than c.requires.1.room in
    (c.find_cell-q.ensures.1, c.requires.0.writing.inside, space)

pub loop-b-preserved : goal.loop-b-preserved
unfolding cells_in
loop-b-preserved c = let G = c.loop-b.invariant in
    let E = c.find_cell-q.ensures.0 in
    going_more G (rw (E, G.below) at c.append_cell-pos.ensures)
