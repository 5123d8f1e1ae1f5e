-- `targets_ok` meets its contract: generator after generator above the level.
use Prim.Native.Nat.{ℕ, ◌≤◌}
use lib.Dec.{ltb}
use Rattle.numbers.proofs.Tested.{Tested}
use mathlib.Core.Bool.{◌||◌}
use Rattle.check_lines.specs.Lines.{target_ok}
use Rattle.check_lines.proofs.targets_ok.Given as goal

abbrev pub invariant-loop-j : goal.invariant-loop-j
invariant-loop-j l = (l.i ≤ l.j) × Tested (λ (k : ℕ). ltb k l.i || target_ok l.words l.d l.many k) l.j
