-- `moved` meets its contract: conjugation keeps the exponents from l up to k.
use Rattle.commuting.specs.Commuting.{KeepsFrom}
use Rattle.commuting.proofs.moved.Given as goal

abbrev pub invariant-loop-l : goal.invariant-loop-l
invariant-loop-l l = KeepsFrom l.rows l.k l.j l.x l.l
