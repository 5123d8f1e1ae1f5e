-- `carries_all` goes through the generators above the top.
use Prim.Native.Nat.{◌-◌}
use Rattle.check_columns.proofs.Carrying.{Rising}
use Rattle.check_columns.proofs.carries_all.Given as goal

abbrev pub invariant-loop-j : goal.invariant-loop-j
invariant-loop-j l = Rising l.s l.words l.firsts l.g l.d l.rows l.v l.j

abbrev pub decreases-loop-j : goal.decreases-loop-j
decreases-loop-j l = l.gens - l.j
