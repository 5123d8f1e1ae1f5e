-- `refs_are` meets its contract: line after line.
use mathlib.Core.Path.{◌∙◌}
use native.Mathlib.Omega.{arith}
use borrow.Author.Tests.{ne_eqb}
use Rattle.numbers.proofs.Tested.{tested-all, tested-fails}
use Rattle.check_lines.proofs.refs_are.Goals as goal

pub returns-then-word_at-x : goal.returns-then-word_at-x
returns-then-word_at-x c = let e = rw c.up.ensures at c.word_at.ensures in
    tested-fails c.loop-c.invariant (omega arith) (ne_eqb _ _ (λ h. c.if-word_at-x.true (e ∙ h)))

pub returns : goal.returns
returns c = tested-all c.loop-c.invariant (omega arith)
