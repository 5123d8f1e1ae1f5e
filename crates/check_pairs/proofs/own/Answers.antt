-- `own` meets its contract, case by case.
use mathlib.Core.Path.{◌∙◌, ap}
use native.Mathlib.Omega.{arith}
use Rattle.definitions.specs.Table.{ROW, word_at}
use Rattle.seek.proofs.Seek.{found-fits}
use Rattle.check_pairs.proofs.Blocks.{line-one, line-inside, line-blocks}
use Rattle.check_pairs.proofs.own.Goals as goal

pub returns-then-w-deg : goal.returns-then-w-deg
returns-then-w-deg c = line-one c.requires.1 c.args.p c.first_width-w.ensures.0 c.if-w-deg.true

pub matrix_line-requires : goal.matrix_line-requires
matrix_line-requires c = let L = c.requires.1 in
    let F = found-fits L.found c.args.i L.level in
    omega (arith, F.top, c.well_formed)

pub word_at-requires : goal.word_at-requires
word_at-requires c = let L = c.requires.1 in
    let F = found-fits L.found c.args.i L.level in (omega (arith, F.top, F.positive, c.matrix_line.ensures), omega arith)

pub returns-then-word_at-w : goal.returns-then-word_at-w
returns-then-word_at-w c = let row = c.word_at.ensures ∙ ap (λ l. word_at c.args.words.now l ROW) c.matrix_line.ensures in
    line-inside c.requires.1 c.args.p c.first_width-w.ensures.0 c.if-w-deg.false row c.if-word_at-w.true

pub returns : goal.returns
returns c = let row = c.word_at.ensures ∙ ap (λ l. word_at c.args.words.now l ROW) c.matrix_line.ensures in
    line-blocks c.requires.1 c.args.p c.first_width-w.ensures.0 c.if-w-deg.false row (omega (arith, c.if-word_at-w.false))
    c.blocks_differ.ensures
