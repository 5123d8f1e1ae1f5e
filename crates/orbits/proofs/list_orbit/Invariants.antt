-- `list_orbit`: q is member k, and the members before it are listed.
use mathlib.Core.Path.{◌≡◌}
use Rattle.survey.specs.Below.{deg_of}
use Rattle.survey.proofs.Notes.{Filled}
use Rattle.orbits.specs.Blocks.{members, member_of}
use Rattle.orbits.proofs.list_orbit.Given as goal

abbrev pub invariant-loop-k : goal.invariant-loop-k
invariant-loop-k l = (l.q ≡ member_of l.f l.low l.r l.k) × Filled (members l.blocks) (member_of l.f l.low l.r) l.k × (l.d.deg ≡ deg_of l.f l.low l.q)
