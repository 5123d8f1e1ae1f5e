-- `lines_shifted` compares line by line.
use Prim.Native.Nat.{◌-◌}
use Rattle.compare.proofs.Shifted.{Shifting}
use Rattle.compare.proofs.lines_shifted.Given as goal

abbrev pub invariant-loop-c : goal.invariant-loop-c
invariant-loop-c l = Shifting l.m l.words l.at l.src l.t l.c
