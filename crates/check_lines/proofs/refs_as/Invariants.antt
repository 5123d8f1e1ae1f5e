-- `refs_as` meets its contract: column after column.
use Prim.Native.Nat.{ℕ}
use lib.Dec.{eqb}
use Rattle.numbers.proofs.Tested.{Tested}
use Rattle.check_lines.specs.Lines.{ref_in}
use Rattle.check_lines.proofs.refs_as.Given as goal

abbrev pub invariant-loop-c : goal.invariant-loop-c
invariant-loop-c l = Tested (λ (k : ℕ). eqb (ref_in l.words l.fn.d l.g k) (ref_in l.words l.fn.d 0 k)) l.c
