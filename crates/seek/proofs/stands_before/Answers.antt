-- `stands_before` meets its contract: by level, then by representation.
use mathlib.Core.Path.{sym, ◌∙◌, ap}
use native.Mathlib.Omega.{arith}
use lib.Dec.{ltb}
use Rattle.seek.proofs.Halves.{before-first, behind-first, before-second}
use Rattle.seek.proofs.stands_before.Goals as goal

pub returns-then-w-i : goal.returns-then-w-i
returns-then-w-i c = let a = c.args in before-first a.words.now a.i a.r a.l (rw c.word_at-w.ensures at c.if-w-i.true)

pub returns-then-i-w : goal.returns-then-i-w
returns-then-i-w c = let a = c.args in behind-first a.words.now a.i a.r a.l (rw c.word_at-w.ensures at c.if-i-w.true)

pub returns : goal.returns
returns c = let a = c.args in
    let e = sym c.word_at-w.ensures in
    ap (λ x. ltb x a.r) (c.up.ensures ∙ c.word_at.ensures)
    ∙ before-second a.words.now a.i a.r a.l (omega (arith, e, c.if-i-w.false, c.if-w-i.false))
