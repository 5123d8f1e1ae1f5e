-- `block_row`: rows of one block begin at row 0.
use native.Mathlib.Nat.{div-mul-le_self}
use native.Mathlib.Omega.{arith}
use Rattle.compare.proofs.Blocks.{row-single}
use Rattle.compare.proofs.block_row.Goals as goal

pub returns-then-w-deg : goal.returns-then-w-deg
returns-then-w-deg c = row-single c.args.row c.args.w c.args.deg c.if-w-deg.true c.requires.1

pub nonzero_div-result : goal.nonzero_div-result
nonzero_div-result c = c.requires.0

pub overflow_mul-result : goal.overflow_mul-result
overflow_mul-result c = omega (arith, div-mul-le_self c.args.row c.args.w, c.ranges, c.well_formed)
