-- `top` meets its contract: the exponents from k up to i are 0.
use Rattle.rows.specs.Rows.{Top}
use Rattle.rows.proofs.top.Given as goal

abbrev pub invariant-loop-k : goal.invariant-loop-k
invariant-loop-k l = Top l.i l.x l.k
