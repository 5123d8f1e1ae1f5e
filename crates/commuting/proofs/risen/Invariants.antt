-- `risen` meets its contract: generator c commutes with every generator below j.
use Rattle.commuting.specs.Commuting.{Rise}
use Rattle.commuting.proofs.risen.Given as goal

abbrev pub invariant-loop-j : goal.invariant-loop-j
invariant-loop-j l = Rise l.rows l.c l.j
