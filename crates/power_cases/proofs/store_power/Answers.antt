-- `store_power` is safe and ends: a column has two words.
use lib.ListN.{length-set}
use native.Mathlib.Omega.{arith}
use Rattle.power_cases.proofs.store_power.Goals as goal

pub bounds-out-at-in-loop-c : goal.bounds-out-at-in-loop-c
bounds-out-at-in-loop-c c = simp length-set (omega (arith, c.up-at.ensures))
