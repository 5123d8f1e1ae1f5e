-- `of` begins at the first representation.
use Rattle.seek.proofs.Seek.{whole-some}
use Rattle.seek.proofs.Reps.of.Goals as goal

pub found-d-requires : goal.found-d-requires
found-d-requires c = let (W, l, h) = c.requires in
    (W, l, h, whole-some c.args.s c.args.words.now W c.args.i l h)
