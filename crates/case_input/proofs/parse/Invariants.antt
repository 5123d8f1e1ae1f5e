-- `parse`: after i bytes, the words with these added.
use mathlib.Core.Path.{◌≡◌}
use Prim.Native.Nat.{◌-◌}
use lib.ListN.{length}
use Rattle.case_input.proofs.Parsed.{Parsing}
use Rattle.case_input.proofs.parse.Given as goal

abbrev pub invariant-loop-b : goal.invariant-loop-b
invariant-loop-b l = Parsing l.s l.initial.words l.words l.k l.b-index × (length l.words ≡ length l.initial.words)
