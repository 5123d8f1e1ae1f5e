-- `mix_words`: after i numbers, the sum over them.
use mathlib.Core.Path.{◌≡◌}
use Prim.Native.Nat.{◌-◌, ◌≤◌}
use lib.ListN.{length}
use Rattle.case_input.specs.Mixed.{mixed_to}
use Rattle.case_input.proofs.mix_words.Given as goal

abbrev pub invariant-loop-w : goal.invariant-loop-w
invariant-loop-w l = (l.sum ≡ mixed_to l.words l.w-index) × (l.w-index ≤ length l.words)
