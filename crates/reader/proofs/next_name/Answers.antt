-- The space, and then the value behind an e.
use mathlib.Core.Path.{◌∙◌}
use mathlib.Core.List.{[], ◌∷◌}
use native.Mathlib.Omega.{arith}
use Rattle.text.proofs.Reading.{byte-within, behind-none, behind-some}
use Rattle.reader.proofs.next_name.Goals as goal

pub returns-then-byte_at-ne32 : goal.returns-then-byte_at-ne32
returns-then-byte_at-ne32 c = let a = c.args in
    behind-none (101 ∷ []) a.text.now a.at 32 (λ q. c.if-byte_at-ne32.true (c.byte_at.ensures ∙ q))

pub overflow_add-at : goal.overflow_add-at
overflow_add-at c = let a = c.args in
    omega (arith, byte-within a.text.now a.at (omega arith))

pub returns : goal.returns
returns c = let a = c.args in
    behind-some (101 ∷ []) a.text.now a.at 32 (omega arith) (omega arith) c.value_behind.ensures
