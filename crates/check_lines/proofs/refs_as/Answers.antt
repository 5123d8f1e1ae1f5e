-- `refs_as` meets its contract: column after column.
use mathlib.Core.Path.{sym, ◌∙◌}
use native.Mathlib.Omega.{arith}
use borrow.Author.Tests.{eq-eqb, ne_eqb}
use Rattle.numbers.proofs.Tested.{tested-more, tested-all, tested-fails}
use Rattle.check_lines.proofs.Lines.{ref-read}
use Rattle.check_lines.proofs.refs_as.Goals as goal

pub returns-then-word_at : goal.returns-then-word_at
returns-then-word_at c = let word-at = c.word_at in
    let up = c.up-k in
    let matrix-line = c.matrix_line-at in
    let x = ref-read c.args.words.now c.args.d c.args.g matrix-line.ensures up.ensures word-at.ensures in
    let y = ref-read c.args.words.now c.args.d 0 c.matrix_line-first.ensures up.ensures c.word_at-in-loop-c.ensures in
    tested-fails c.loop-c.invariant (omega arith) (ne_eqb _ _ (λ h. c.if-word_at.true (x ∙ h ∙ sym y)))

pub loop-c-preserved : goal.loop-c-preserved
loop-c-preserved c = let word-at = c.word_at in
    let up = c.up-k in
    let matrix-line = c.matrix_line-at in
    let x = ref-read c.args.words.now c.args.d c.args.g matrix-line.ensures up.ensures word-at.ensures in
    let y = ref-read c.args.words.now c.args.d 0 c.matrix_line-first.ensures up.ensures c.word_at-in-loop-c.ensures in
    tested-more c.loop-c.invariant (eq-eqb _ _ (sym x ∙ c.if-word_at.false ∙ y))

pub returns : goal.returns
returns c = tested-all c.loop-c.invariant (omega arith)
