-- `append_below` appends the blocks of a generator one behind the other.
use Prim.Native.Nat.{◌*◌, ◌<◌}
use Rattle.lines.proofs.Appending.{going_more, going-even, space-none}
use Rattle.survey.specs.Below.{low_of}
use Rattle.induce.specs.Inducing.{still_in, stills_in}
use Rattle.induce.proofs.Cells.{cell-length}
use borrow.Author.Rules.{rules}
use Rattle.induce.proofs.append_below.Goals as goal

pub loop-b-init : goal.loop-b-init
loop-b-init c = space-none c.requires.1

pub append_cell-pos-requires : goal.append_cell-pos-requires
unfolding stills_in
append_cell-pos-requires c = let l = c.loop-b in let G = l.invariant in let f = c.args.f in let i = c.args.i in
    let less-than : l.b < f.p = search rules in
    let W = low_of f c.args.words.now in
    let space = going-even f.p (8 * i.deg) (λ b. cell-length f W i c.args.g (still_in f W i c.args.g b)) G less-than c.requires.1.room in
    (c.find_still-q.ensures.1, c.requires.0.inside, space)

pub loop-b-preserved : goal.loop-b-preserved
unfolding stills_in
loop-b-preserved c = let G = c.loop-b.invariant in
    let E = c.find_still-q.ensures.0 in
    going_more G (rw (E, G.below) at c.append_cell-pos.ensures)
