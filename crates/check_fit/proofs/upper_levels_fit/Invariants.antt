-- `upper_levels_fit` goes from level to level.
use mathlib.Core.Path.{◌≡◌}
use Prim.Native.Nat.{◌-◌}
use lib.ListN.{length}
use Rattle.check_fit.proofs.Levels.{Reaching}
use Rattle.check_fit.proofs.upper_levels_fit.Given as goal

abbrev pub invariant-loop-i : goal.invariant-loop-i
invariant-loop-i l = Reaching l.s l.words l.rows l.primes l.orders l.initial.firsts l.firsts l.low l.below l.i ×
    (length l.marks ≡ length l.initial.marks) × (length l.slots ≡ length l.initial.slots)

abbrev pub decreases-loop-i : goal.decreases-loop-i
decreases-loop-i l = l.gens - l.i
