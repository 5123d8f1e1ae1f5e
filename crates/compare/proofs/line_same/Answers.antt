-- `line_same` compares the reference, then the row and the exponent at once.
use borrow.Author.Tests.{eqb-true}
use mathlib.Core.Path.{sym, ◌∙◌}
use native.Mathlib.Omega.{arith}
use Rattle.compare.proofs.Shifted.{never, line_same}
use Rattle.compare.proofs.line_same.Goals as goal

pub returns-then-word_at-x : goal.returns-then-word_at-x
returns-then-word_at-x c = never

pub two_at-requires : goal.two_at-requires
two_at-requires c = (c.requires.0, omega arith)

pub two_at-requires-2 : goal.two_at-requires-2
two_at-requires-2 c = (c.requires.1, omega arith)

pub returns : goal.returns
returns c = λ e.
    let a = c.args in
    line_same a.words.now a.at a.src a.x c.two_at.result c.two_at-2.result
    (sym c.word_at.ensures ∙ c.if-word_at-x.false) c.two_at.ensures c.two_at-2.ensures
    (eqb-true c.two_at.result c.two_at-2.result e)
