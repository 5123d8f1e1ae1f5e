-- `target_ok` meets its contract: what the first column refers to, then all columns.
use mathlib.Core.Path.{◌∙◌}
use native.Mathlib.Omega.{arith}
use Rattle.check_lines.proofs.Lines.{target-unlisted, target-refs}
use Rattle.check_lines.proofs.target_ok.Goals as goal

pub returns-then-many-up : goal.returns-then-many-up
returns-then-many-up c = let word-at = c.word_at-x in
    let matrix-line = c.matrix_line-at in
    target-unlisted c.args.words.now c.args.d c.args.many c.args.j matrix-line.result word-at.result matrix-line.ensures
    word-at.ensures (omega (arith, c.up.ensures, c.if-many-up.true))

pub returns : goal.returns
returns c = let up = c.up in
    let word-at = c.word_at-x in
    let matrix-line = c.matrix_line-at in
    c.refs_are.ensures
    ∙ target-refs c.args.words.now c.args.d c.args.many c.args.j matrix-line.result word-at.result matrix-line.ensures
    word-at.ensures (omega (arith, up.ensures, c.if-many-up.false))
