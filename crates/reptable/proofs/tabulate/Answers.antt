-- `tabulate` meets its contract: the words that are written as text are those of the table, and no more.
use mathlib.Core.Path.{refl, sym}
use Prim.Native.Nat.{ℕ}
use native.Mathlib.Omega.{arith}
use lib.ListN.{length-replicate}
use lib.Seq.{length-take-le}
use Rattle.reptable.proofs.Calls.{finished, lines-within, written}
use Rattle.reptable.proofs.tabulate.Goals as goal

pub overflow_mul-words : goal.overflow_mul-words
overflow_mul-words c = omega (arith, lines-within refl (finished c.in_ok-lines.was c.build.ensures))

pub slice_bounds-words-end : goal.slice_bounds-words-end
slice_bounds-words-end c = omega (arith, lines-within refl (finished c.in_ok-lines.was c.build.ensures))

pub slice_bounds-write_table-end : goal.slice_bounds-write_table-end
slice_bounds-write_table-end c = sym (length-take-le _ _ (omega (arith, lines-within refl (finished c.in_ok-lines.was c.build.ensures))))

pub returns : goal.returns
returns c =
    let w = written (length-replicate {0} {A = ℕ} 8192 0) c.requires refl (finished c.in_ok-lines.was c.build.ensures) c.write_table.ensures in
    record { tabulated = w.0; prefix_len = w.1 }
