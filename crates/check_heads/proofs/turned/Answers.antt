-- `turned` meets its contract: the first line of a level behind the first is of the next one.
use mathlib.Core.Path.{sym, ◌∙◌}
use Rattle.check_heads.proofs.Places.{place-stays, place-turns}
use Rattle.check_heads.proofs.turned.Goals as goal

pub returns-then-begins : goal.returns-then-begins
returns-then-begins c = let a = c.args in
    place-turns a.words.now a.p (sym c.begins.ensures ∙ c.if-begins.true)

pub returns : goal.returns
returns c = let a = c.args in
    place-stays a.words.now a.p (sym c.begins.ensures ∙ c.if-begins.false)
