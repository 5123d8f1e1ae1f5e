-- `append_matrix` appends the lines of one matrix of the level below, as they stand.
use Rattle.text.proofs.Writing.{wrote_as}
use Rattle.extend.proofs.Extensions.{same_lines}
use Rattle.extend.proofs.append_matrix.Goals as goal

pub returns : goal.returns
returns c = let src = c.matrix_line.ensures in
    let head = c.head-h.ensures in
    wrote_as c.append_copy.ensures (same_lines c.requires.copies.0 _ _ _ c.requires.copies.2 c.requires.copies.3 head src)
