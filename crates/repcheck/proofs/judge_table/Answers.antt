-- `judge_table` meets its contract: the words that are checked are those that the table text says, and no more.
use mathlib.Core.Path.{refl, sym}
use Prim.Native.Nat.{ℕ}
use native.Mathlib.Omega.{arith}
use lib.ListN.{length-replicate}
use lib.Seq.{length-take-le}
use Rattle.repcheck.proofs.Calls.{finished, lines-within, checked}
use Rattle.repcheck.proofs.judge_table.Goals as goal

pub overflow_mul-words : goal.overflow_mul-words
overflow_mul-words c = omega (arith, lines-within refl (finished c.in_ok-lines.was c.read_table.ensures))

pub slice_bounds-words-end : goal.slice_bounds-words-end
slice_bounds-words-end c = lines-within refl (finished c.in_ok-lines.was c.read_table.ensures)

pub slice_bounds-check-end : goal.slice_bounds-check-end
slice_bounds-check-end c = sym (length-take-le _ _ (lines-within refl (finished c.in_ok-lines.was c.read_table.ensures)))

pub returns : goal.returns
returns c = checked c.args.group.now (length-replicate {0} {A = ℕ} 8192 0) c.requires refl (finished c.in_ok-lines.was c.read_table.ensures) c.check.ensures
