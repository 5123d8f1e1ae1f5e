-- `rep_at` reads where the representation begins.
use mathlib.Core.Path.{◌∙◌, ap}
use native.Mathlib.Omega.{arith}
use Rattle.level.specs.Stored.{listed_in}
use Rattle.compare.proofs.rep_at.Goals as goal

pub representation-requires : goal.representation-requires
representation-requires c = omega (arith, c.up.ensures, c.requires.1)

pub returns : goal.returns
returns c = c.representation.ensures ∙ ap (λ l. listed_in c.args.words.now l) c.up.ensures
