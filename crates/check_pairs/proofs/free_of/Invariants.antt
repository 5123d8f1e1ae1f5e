-- `free_of` meets its contract: the columns before c have other references.
use Prim.Native.Nat.{◌+◌, ◌*◌, ◌-◌, ◌≤◌}
use lib.ListN.{length}
use Rattle.numbers.proofs.Tested.{Tested}
use Rattle.check_pairs.specs.Pairs.{other_ref}
use Rattle.check_pairs.proofs.free_of.Given as goal

abbrev pub invariant-loop-c : goal.invariant-loop-c
invariant-loop-c l = (l.c ≤ l.deg) × (8 * (l.line + l.deg) ≤ length l.words) × Tested (other_ref l.words l.line l.x) l.c

abbrev pub decreases-loop-c : goal.decreases-loop-c
decreases-loop-c l = l.deg - l.c
