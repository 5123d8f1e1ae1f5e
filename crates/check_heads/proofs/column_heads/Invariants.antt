-- `column_heads` meets its contract: line after line, each d behind the one before.
use Prim.Native.Nat.{◌-◌}
use Rattle.check_heads.proofs.Places.{Columned}
use Rattle.check_heads.proofs.column_heads.Given as goal

abbrev pub invariant-loop-kind : goal.invariant-loop-kind
invariant-loop-kind l = Columned l.words l.place l.d l.c l.first l.at l.kind

abbrev pub decreases-loop-kind : goal.decreases-loop-kind
decreases-loop-kind l = l.end - l.kind
