-- `intertwines_at` moves a column both ways, or where the degree is 1 compares exponents.
use mathlib.Core.Path.{◌∙◌, sym, subst}
use Rattle.level.specs.Stored.{Below}
use Rattle.relations.proofs.Kept.{entries-same, kept-stored, intertwiner-moved}
use Rattle.relations.proofs.Single.{single-intertwiner}
use Rattle.relations.proofs.intertwines_at.Goals as goal

pub returns-then-d-eq1 : goal.returns-then-d-eq1
returns-then-d-eq1 c = λ P is.
    let a = c.args in
    let (K, L, e, k, j, h) = c.requires in
    single-intertwiner K c.if-d-eq1.true P a.k a.j a.c k j h a.w.now is L e c.moved-u.result c.conjugated-t.result
    c.conjugated-t.ensures c.moved-u.ensures.0

pub moved-requires-2 : goal.moved-requires-2
moved-requires-2 c = let (K, L, e, k, j, h) = c.requires in
    let y = c.moved-y in
    (kept-stored L _ k, subst (λ d. Below c.args.s.m d y.result) (sym e) y.ensures.1)

pub returns : goal.returns
returns c = λ P is.
    let b = c.moved-2 in
    let a = c.moved in
    let z = c.conjugated-z in
    let y = c.moved-y in
    let x = c.args in
    c.eq.ensures ∙ entries-same _ _
    ∙ intertwiner-moved x.s.m x.words.now x.d P x.k x.j x.c x.w.now y.result z.result a.result b.result
    y.ensures.0 z.ensures is x.e a.ensures.0 b.ensures.0
