-- `check_case` is safe: the text before the vertical tab, and the bytes behind it, are lent.
use mathlib.Core.Path.{sym}
use native.Mathlib.Omega.{arith}
use lib.Seq.{length-take-le}
use Rattle.case_lines.proofs.check_case.Goals as goal

pub slice_bounds-check_parsed-end : goal.slice_bounds-check_parsed-end
slice_bounds-check_parsed-end c = sym (length-take-le _ _ (omega arith))
