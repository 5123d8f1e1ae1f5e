-- `entries_ok` meets its contract: line after line.
use mathlib.Core.Path.{sym, ◌∙◌}
use native.Mathlib.Omega.{arith}
use Rattle.numbers.proofs.Tested.{tested-more, tested-all, tested-fails}
use Rattle.check_lines.proofs.entries_ok.Goals as goal

pub returns-then-not-entry_ok : goal.returns-then-not-entry_ok
returns-then-not-entry_ok c = let entry-ok = c.entry_ok in
    let e = rw c.up.ensures at entry-ok.ensures in
    tested-fails c.loop-c.invariant (omega arith) (sym e ∙ c.if-not-entry_ok.true)

pub loop-c-preserved : goal.loop-c-preserved
loop-c-preserved c = let entry-ok = c.entry_ok in
    let e = rw c.up.ensures at entry-ok.ensures in
    tested-more c.loop-c.invariant (sym e ∙ c.if-not-entry_ok.false)

pub returns : goal.returns
returns c = tested-all c.loop-c.invariant (omega arith)
