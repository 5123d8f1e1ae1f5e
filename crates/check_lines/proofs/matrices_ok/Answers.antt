-- `matrices_ok` meets its contract: generator after generator.
use mathlib.Core.Path.{sym, ◌∙◌}
use native.Mathlib.Omega.{arith}
use Rattle.numbers.proofs.Tested.{tested-more, tested-all, tested-fails}
use Rattle.check_lines.proofs.matrices_ok.Goals as goal

pub returns-then-not-matrix_ok : goal.returns-then-not-matrix_ok
returns-then-not-matrix_ok c = let matrix-ok = c.matrix_ok in
    let matrix-line = c.matrix_line in
    let e = rw matrix-line.ensures at matrix-ok.ensures in
    tested-fails c.loop-g.invariant (omega arith) (sym e ∙ c.if-not-matrix_ok.true)

pub loop-g-preserved : goal.loop-g-preserved
loop-g-preserved c = let matrix-ok = c.matrix_ok in
    let e = rw c.matrix_line.ensures at matrix-ok.ensures in
    tested-more c.loop-g.invariant (sym e ∙ c.if-not-matrix_ok.false)

pub returns : goal.returns
returns c = tested-all c.loop-g.invariant (omega arith)
