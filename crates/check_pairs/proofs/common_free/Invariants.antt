-- `common_free` meets its contract: the columns before c have references that e has not.
use Prim.Native.Nat.{◌+◌, ◌*◌, ◌-◌, ◌≤◌}
use lib.ListN.{length}
use Rattle.numbers.proofs.Tested.{Tested}
use Rattle.check_pairs.proofs.Columns.{free_at}
use Rattle.check_pairs.proofs.common_free.Given as goal

abbrev pub invariant-loop-c : goal.invariant-loop-c
invariant-loop-c l = (l.c ≤ l.deg) × (8 * (l.line + l.deg) ≤ length l.words) × (8 * (l.e.line + l.e.deg) ≤ length l.words) ×
    Tested (free_at l.words l.e.line l.e.deg l.line) l.c

abbrev pub decreases-loop-c : goal.decreases-loop-c
decreases-loop-c l = l.deg - l.c
