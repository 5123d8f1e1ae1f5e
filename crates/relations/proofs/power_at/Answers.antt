-- `power_at` moves a column both ways.
use mathlib.Core.Path.{◌∙◌}
use native.Mathlib.Omega.{arith}
use Rattle.relations.proofs.Kept.{entries-same, kept-stored, kept-column, power-moved}
use Rattle.relations.proofs.power_at.Goals as goal

pub walked-z-requires : goal.walked-z-requires
walked-z-requires c = let (K, l, h) = c.requires in
    let e = c.up.ensures in
    (omega (arith, K.few), kept-stored K _ (omega arith), kept-column K _ h)

pub returns : goal.returns
returns c = λ P is.
    let a = c.args in
    let y = c.moved_times-y in
    let z = c.walked-z in
    c.eq.ensures ∙ entries-same _ _
    ∙ power-moved a.s.m a.words.now a.d P a.j a.p _ a.c a.u.now y.result z.result c.up.ensures
    y.ensures.0 z.ensures.0 is
