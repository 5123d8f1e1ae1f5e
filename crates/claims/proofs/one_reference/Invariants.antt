-- `one_reference` meets its contract: the columns before c have the reference of column 0.
use mathlib.Core.Path.{◌≡◌}
use Prim.Native.Nat.{◌+◌, ◌*◌, ◌-◌, ◌≤◌}
use lib.ListN.{length}
use Rattle.definitions.specs.Table.{REF, word_at, rep_at}
use Rattle.numbers.proofs.Tested.{Tested}
use Rattle.claims.proofs.Claims.{same_reference}
use Rattle.claims.proofs.one_reference.Given as goal

abbrev pub invariant-loop-c : goal.invariant-loop-c
invariant-loop-c l = (l.c ≤ l.deg) × (8 * (l.line + l.deg) ≤ length l.words) × (l.first ≡ word_at l.words l.line REF) ×
    Tested (same_reference (rep_at l.words l.line l.deg)) l.c

abbrev pub decreases-loop-c : goal.decreases-loop-c
decreases-loop-c l = l.deg - l.c
