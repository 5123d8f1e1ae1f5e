-- `suspect_apart`: one representation and those before it, then all pairs.
use Rattle.check_pairs.proofs.Levels.{suspect-fails}
use Rattle.check_pairs.proofs.suspect_apart.Goals as goal

pub returns-then-not-stands_apart : goal.returns-then-not-stands_apart
returns-then-not-stands_apart c = let t = c.stands_apart in
    let (F, l, h) = c.requires in
    suspect-fails c.args.s c.args.words.now c.args.i c.args.p h t.ensures (c.if-not-stands_apart.true)
