-- `begins` meets its contract: the level of the line, then whether a representation was met.
use mathlib.Core.Path.{sym, ◌∙◌}
use Rattle.check_heads.proofs.Places.{other-begins, first-begins}
use Rattle.check_heads.proofs.begins.Goals as goal

pub returns-then-word_at-p : goal.returns-then-word_at-p
returns-then-word_at-p c = let a = c.args in
    other-begins a.words.now a.p (λ e. c.if-word_at-p.true (c.word_at.ensures ∙ e))

pub returns : goal.returns
returns c = let a = c.args in
    first-begins a.words.now a.p (sym c.word_at.ensures ∙ c.if-word_at-p.false)
