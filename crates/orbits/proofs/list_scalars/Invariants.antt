-- `list_scalars`: s is a block along the generator on top, and the scalars up to it are listed.
use mathlib.Core.Path.{◌≡◌}
use Prim.Native.Nat.{ℕ, ◌+◌}
use Rattle.orbits.proofs.Along.{Scaling}
use Rattle.orbits.proofs.list_scalars.Given as goal

abbrev pub invariant-loop-k : goal.invariant-loop-k
invariant-loop-k l = (k : ℕ) × (l.k ≡ k + 1) × Scaling l.f l.low l.rows l.j l.r l.notes l.blocks k l.s
