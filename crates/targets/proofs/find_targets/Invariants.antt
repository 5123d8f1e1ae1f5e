-- `find_targets`: the targets are found above the generator on top and below j.
use Prim.Native.Nat.{◌<◌}
use Rattle.targets.specs.Reached.{Targeted}
use Rattle.targets.proofs.find_targets.Given as goal

abbrev pub invariant-loop-j : goal.invariant-loop-j
invariant-loop-j l = (l.f.top < l.j) × Targeted l.f l.low l.rows l.r l.targets l.j
