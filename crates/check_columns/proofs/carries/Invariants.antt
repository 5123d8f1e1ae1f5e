-- `carries` asks column by column.
use Prim.Native.Nat.{◌-◌}
use Rattle.check_columns.proofs.Carrying.{Carrying}
use Rattle.check_columns.proofs.carries.Given as goal

abbrev pub invariant-loop-o : goal.invariant-loop-o
invariant-loop-o l = Carrying l.s l.words l.d l.e l.i l.j l.w l.v l.o
