-- `add_byte`: no digit, a digit of a word, or one beyond the last word.
use mathlib.Core.Path.{sym, ◌∙◌}
use native.Mathlib.Omega.{arith}
use Rattle.case_input.proofs.Parsed.{added_none, added-digit, added_out}
use Rattle.case_input.proofs.add_byte.Goals as goal

pub returns-then-not-is_digit : goal.returns-then-not-is_digit
returns-then-not-is_digit c = let z = c.args in
    added_none z.words.now z.k z.b (sym c.is_digit.ensures ∙ c.if-not-is_digit.true)

pub returns-then-k-words : goal.returns-then-k-words
returns-then-k-words c = let z = c.args in
    let d = c.is_digit in
    added-digit z.words.now z.k z.b (sym d.ensures ∙ c.if-not-is_digit.false) c.grown.ensures

pub returns-else-k-words : goal.returns-else-k-words
returns-else-k-words c = let z = c.args in
    let d = c.is_digit in
    added_out z.words.now z.k z.b (sym d.ensures ∙ c.if-not-is_digit.false) (omega arith)
