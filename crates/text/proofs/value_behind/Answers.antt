-- A value behind a byte: the byte, and then the value at the next position.
use mathlib.Core.Path.{◌∙◌}
use mathlib.Core.List.{[]}
use native.Mathlib.Omega.{arith}
use Rattle.text.proofs.Reading.{byte-within, behind-none, behind-some}
use Rattle.text.proofs.value_behind.Goals as goal

pub returns-then-byte_at-b : goal.returns-then-byte_at-b
returns-then-byte_at-b c = let a = c.args in
    behind-none [] a.text.now a.at a.b (λ q. c.if-byte_at-b.true (c.byte_at.ensures ∙ q))

pub overflow_add-at : goal.overflow_add-at
overflow_add-at c = let a = c.args in
    omega (arith, byte-within a.text.now a.at (omega arith))

pub returns : goal.returns
returns c = let a = c.args in
    behind-some [] a.text.now a.at a.b (omega arith) (omega arith) c.value.ensures
