-- `find_lines`: the first lines of the representations before r are noted, and s is where r begins.
use mathlib.Core.Path.{◌≡◌}
use Prim.Native.Nat.{◌-◌}
use lib.ListN.{length}
use Rattle.survey.specs.Below.{first_of, FirstsTo}
use Rattle.survey.proofs.find_lines.Given as goal

abbrev pub invariant-loop-r : goal.invariant-loop-r
invariant-loop-r l = (length l.notes ≡ length l.initial.notes) × (l.s ≡ first_of l.f l.low l.r) × FirstsTo l.f l.low l.notes l.r

abbrev pub decreases-loop-r : goal.decreases-loop-r
decreases-loop-r l = l.f.reps - l.r
