-- `power_column` is safe: a matrix that has a column has a modulus.
use Prim.Native.Nat.{◌<◌}
use native.Mathlib.Omega.{arith}
use native.Mathlib.Nat.{mod-lt}
use Rattle.power_cases.proofs.power_column.Goals as goal

pub nonzero_rem-x : goal.nonzero_rem-x
nonzero_rem-x c = omega (arith, (c.requires.0.valid c.args.c c.requires.1).exp)

pub power_entry-requires : goal.power_entry-requires
power_entry-requires c =
    let m : 0 < c.args.m = omega (arith, (c.requires.0.valid c.args.c c.requires.1).exp) in
    record { holds = c.requires.0; below = record { row = c.requires.1; exp = mod-lt c.args.c m } }
