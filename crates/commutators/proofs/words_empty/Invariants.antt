-- `words_empty`: the exponents are looked at in order, up to the first that is not 0.
use mathlib.Core.Path.{◌≡◌}
use mathlib.Core.Bool.{true}
use Prim.Native.Nat.{◌≤◌, ◌<◌, ◌-◌}
use Rattle.definitions.specs.Presentation.{pair_count, pair_number}
use Rattle.commutators.proofs.Scan.{Scanned}
use Rattle.commutators.proofs.words_empty.Given as goal

abbrev pub invariant-loop-k : goal.invariant-loop-k
invariant-loop-k l = (l.j < l.n) × (l.i < l.j) × (l.k ≤ l.k-end) × (l.at ≡ pair_number l.j l.i) × (l.at < pair_count) × (l.empty ≡ true) ×
    Scanned l.rows l.j l.i l.k

abbrev pub decreases-loop-k : goal.decreases-loop-k
decreases-loop-k l = l.k-end - l.k

abbrev pub invariant-loop-i : goal.invariant-loop-i
invariant-loop-i l = (l.j < l.n) × (l.i ≤ l.j) × (l.empty ≡ true) × Scanned l.rows l.j l.i 0

abbrev pub decreases-loop-i : goal.decreases-loop-i
decreases-loop-i l = l.j - l.i

abbrev pub invariant-scan : goal.invariant-scan
invariant-scan l = (l.empty ≡ true) × Scanned l.rows l.j 0 0

abbrev pub decreases-scan : goal.decreases-scan
decreases-scan l = l.n - l.j
