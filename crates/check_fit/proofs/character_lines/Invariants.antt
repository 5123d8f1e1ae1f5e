-- `character_lines` writes one line number after the other.
use mathlib.Core.Path.{◌≡◌}
use Prim.Native.Nat.{◌*◌, ◌≤◌}
use Rattle.check_fit.specs.Fit.{CharacterLines}
use Rattle.check_fit.proofs.character_lines.Given as goal

abbrev pub invariant-loop-first : goal.invariant-loop-first
invariant-loop-first l = CharacterLines l.n l.first-index l.first-items × (l.l ≡ l.first-index * l.n)
