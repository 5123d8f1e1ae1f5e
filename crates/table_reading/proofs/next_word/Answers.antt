-- The value, and then its separator.
use mathlib.Core.Path.{sym, subst, ◌∙◌}
use Rattle.table_reading.specs.Forms.{TableWordAt}
use native.Mathlib.Omega.{arith}
use Rattle.text.proofs.Reading.{byte-within}
use Rattle.table_text.proofs.Pieces.{separator-within}
use Rattle.table_reading.proofs.Forms.{word_none, word-other, word_some}
use Rattle.table_reading.proofs.next_word.Goals as goal

pub returns-in_err-v : goal.returns-in_err-v
returns-in_err-v c = let a = c.args in
    subst (TableWordAt a.text.now a.at a.k) (sym c.from_residual.ensures) (word_none _ (c.value.ensures.fails c.in_err-v.was))

pub returns-then-byte_at-separator : goal.returns-then-byte_at-separator
returns-then-byte_at-separator c = word-other _ (c.value.ensures.stands _ _ c.in_ok-v.was)
    (λ q. c.if-byte_at-separator.true (c.byte_at.ensures ∙ q ∙ sym c.separator.ensures))

pub overflow_add-result : goal.overflow_add-result
overflow_add-result c = let a = c.args in
    omega (arith, byte-within a.text.now c.in_ok-v.next (omega (arith, (separator-within a.k).0)))

pub returns : goal.returns
returns c = let a = c.args in
    let within = byte-within a.text.now c.in_ok-v.next (omega (arith, (separator-within a.k).0)) in
    word_some _ (c.value.ensures.stands _ _ c.in_ok-v.was) (omega arith) within
