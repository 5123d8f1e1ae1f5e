-- `first_width` looks nothing up where the degree is 1.
use native.Mathlib.Omega.{arith}
use Rattle.check_pairs.proofs.Blocks.{line_first, line-narrow}
use Rattle.check_pairs.proofs.first_width.Goals as goal

pub returns-then-d-eq1 : goal.returns-then-d-eq1
returns-then-d-eq1 c = (line-narrow c.requires.1 c.if-d-eq1.true, omega arith)

pub width-requires : goal.width-requires
width-requires c = line_first c.requires.1
