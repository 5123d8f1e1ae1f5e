-- `commutes` asks column by column.
use mathlib.Core.Path.{sym, ◌∙◌}
use mathlib.Core.Bool.{false≢true}
use Rattle.std.proofs.Common.{◌+◌, [], subst}
use native.Mathlib.Omega.{arith}
use Rattle.check_columns.proofs.Carrying.{Carrying, carrying-none, carrying-more, carrying-all}
use Rattle.check_columns.proofs.commutes.Goals as goal

pub loop-o-init : goal.loop-o-init
loop-o-init c = carrying-none

pub commutes_at-requires : goal.commutes_at-requires
commutes_at-requires c = let (K, L, e, i, j, v, n, d) = c.requires in
    (K, L, e, omega (arith, i, j), j, omega arith)

pub returns-then-not-commutes_at : goal.returns-then-not-commutes_at
returns-then-not-commutes_at c = λ e. absurd (false≢true e)

pub loop-o-preserved : goal.loop-o-preserved
loop-o-preserved c = let t = c.commutes_at in
    let a = c.args in
    subst (λ k. Carrying a.s a.words.now a.d a.e a.i a.j [] a.v (c.loop-o.o + k)) (sym c.up-o-step.ensures)
    (carrying-more c.loop-o.invariant (λ P z. sym (t.ensures P z) ∙ c.if-not-commutes_at.false))

pub returns-else-not-commutes_at : goal.returns-else-not-commutes_at
returns-else-not-commutes_at c = λ e. let t = c.commutes_at in
    carrying-all (carrying-more c.loop-o.invariant (λ P z. sym (t.ensures P z) ∙ c.if-not-commutes_at.false)) (omega (arith, c.up-o-step.ensures))

pub returns : goal.returns
returns c = λ e. carrying-all c.loop-o.invariant (omega arith)
