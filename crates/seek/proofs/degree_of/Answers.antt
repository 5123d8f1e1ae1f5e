-- `degree_of` meets its contract: level 0 has one representation, of degree 1.
use Rattle.seek.proofs.Seek.{zero-degree}
use Rattle.seek.proofs.degree_of.Goals as goal

pub returns-then-i-eq0 : goal.returns-then-i-eq0
returns-then-i-eq0 c = zero-degree c.args.s c.args.words.now c.requires.0 c.args.i c.args.r c.if-i-eq0.true c.requires.2
