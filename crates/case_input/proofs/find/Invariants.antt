-- `find`: what is found from the position on is what is found from the start on.
use mathlib.Core.Path.{◌≡◌}
use Prim.Native.Nat.{◌-◌, ◌≤◌}
use lib.ListN.{length}
use Rattle.case_input.specs.Cases.{found}
use Rattle.case_input.proofs.find.Given as goal

abbrev pub invariant-loop-at : goal.invariant-loop-at
invariant-loop-at l = (l.start ≤ l.at) × (l.at ≤ length l.s) × (found l.s l.at l.byte ≡ found l.s l.start l.byte)
