-- `guess` reads a line that is there.
use native.Mathlib.Omega.{arith}
use Rattle.seek.proofs.Halves.{line-there}
use Rattle.seek.proofs.guess.Goals as goal

pub word_at-q-requires : goal.word_at-q-requires
word_at-q-requires c = (line-there c.args.words.now c.args.near (omega (arith, c.requires.lines_are)), omega arith)

pub word_at-deg-requires : goal.word_at-deg-requires
word_at-deg-requires c = (line-there c.args.words.now c.args.near (omega (arith, c.requires.lines_are)), omega arith)

pub onward-requires : goal.onward-requires
onward-requires c = let l = line-there c.args.words.now c.args.near (omega (arith, c.requires.lines_are)) in
    (omega (arith, l, c.well_formed), c.in_ok-stride.ensures)
