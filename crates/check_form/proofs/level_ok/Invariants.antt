-- `level_ok` meets its contract: representation after representation.
use Prim.Native.Nat.{◌+◌}
use Rattle.seek.proofs.Walk.{Walked}
use Rattle.check_form.proofs.Form.{ReadUpTo}
use Rattle.check_form.proofs.level_ok.Given as goal

abbrev pub invariant-loop-d : goal.invariant-loop-d
invariant-loop-d l = Walked l.s l.words (l.i + 1) (ReadUpTo l.s l.words l.i) l.d-iterator
