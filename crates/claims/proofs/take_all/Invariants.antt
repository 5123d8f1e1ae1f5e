-- `take_all` goes through the columns: what those before c refer to was free, and is marked.
use Prim.Native.Nat.{◌+◌, ◌*◌, ◌-◌, ◌≤◌}
use lib.ListN.{length}
use Rattle.definitions.specs.Table.{rep_at}
use Rattle.claims.proofs.Marks.{Taking}
use Rattle.claims.proofs.take_all.Given as goal

abbrev pub invariant-loop-c : goal.invariant-loop-c
invariant-loop-c l = (l.c ≤ l.deg) × (8 * (l.line + l.deg) ≤ length l.words) × Taking (rep_at l.words l.line l.deg) l.initial.marks l.marks l.last l.c

abbrev pub decreases-loop-c : goal.decreases-loop-c
decreases-loop-c l = l.deg - l.c
