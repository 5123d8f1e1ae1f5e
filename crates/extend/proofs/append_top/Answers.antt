-- `append_top` appends the lines of the matrix of the generator on top, multiplied by the constant.
use native.Mathlib.Omega.{arith}
use Rattle.text.proofs.Writing.{wrote_as}
use Rattle.survey.specs.Below.{low_of}
use Rattle.extend.proofs.Extensions.{factor-top, piece-copied, piece-lines}
use Rattle.extend.proofs.append_top.Goals as goal

pub append_block-requires : goal.append_block-requires
append_block-requires c = let C = c.requires.copies.0 in
    let below = C.factor_below _ c.requires.copies.1 in
    (piece-copied C _ (omega (arith, C.located.stands.gens)) c.matrix_line.ensures below, c.requires.space)

pub returns : goal.returns
returns c = let a = c.args in
    let src = c.matrix_line.ensures in
    let head = c.head-h.ensures in
    wrote_as c.append_block.ensures
    (piece-lines a.f (low_of a.f a.words.now) a.o a.k a.f.top a.o.rep head src (factor-top a.f a.o a.k))
