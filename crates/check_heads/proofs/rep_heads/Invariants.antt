-- `rep_heads` meets its contract: column after column.
use Prim.Native.Nat.{ℕ, ◌+◌}
use Rattle.numbers.proofs.Tested.{Tested}
use Rattle.check_heads.specs.Places.{column_heads}
use Rattle.check_heads.proofs.rep_heads.Given as goal

abbrev pub invariant-loop-c : goal.invariant-loop-c
invariant-loop-c l = Tested (λ (k : ℕ). column_heads l.words l.p (l.fn.d.line + k) l.fn.d.deg k l.n) l.c
