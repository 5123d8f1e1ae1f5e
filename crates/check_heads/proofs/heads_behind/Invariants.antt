-- `heads_behind` meets its contract: what is left to walk says what the whole walk says.
use Prim.Native.Nat.{◌-◌}
use Rattle.check_heads.specs.Places.{orders_in}
use Rattle.check_heads.proofs.Places.{Stepped}
use Rattle.check_heads.proofs.heads_behind.Given as goal

abbrev pub invariant-loop-p : goal.invariant-loop-p
invariant-loop-p l = Stepped l.s.gens l.words (orders_in l.orders) l.p

abbrev pub decreases-loop-p : goal.decreases-loop-p
decreases-loop-p l = l.s.lines - l.p.line
