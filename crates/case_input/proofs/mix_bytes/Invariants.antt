-- `mix_bytes`: after i numbers, the sum over them.
use mathlib.Core.Path.{◌≡◌}
use Prim.Native.Nat.{◌-◌, ◌≤◌}
use lib.ListN.{length}
use Rattle.case_input.specs.Mixed.{mixed_to}
use Rattle.case_input.proofs.mix_bytes.Given as goal

abbrev pub invariant-loop-b : goal.invariant-loop-b
invariant-loop-b l = (l.sum ≡ mixed_to l.bytes l.b-index) × (l.b-index ≤ length l.bytes)
