-- `same` meets its contract: the forms agree from k up to i, so they agree on level i exactly if they agree on level k.
use mathlib.Core.Path.{◌≡◌}
use Rattle.definitions.specs.Presentation.{to_nf}
use Rattle.definitions.specs.Consistency.{same_form}
use Rattle.rows.proofs.same.Given as goal

abbrev pub invariant-loop-k : goal.invariant-loop-k
invariant-loop-k l = same_form l.i (to_nf l.i l.x) (to_nf l.i l.y) ≡ same_form l.k (to_nf l.k l.x) (to_nf l.k l.y)
