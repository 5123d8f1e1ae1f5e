-- `commutes_at` moves a column both ways, or where the degree is 1 compares exponents.
use mathlib.Core.Path.{sym, ◌∙◌, subst}
use Prim.Native.Nat.{◌<◌}
use mathlib.Core.List.{[]}
use Rattle.level.specs.Stored.{Below}
use Rattle.relations.proofs.Kept.{kept-stored, kept-column, entries-same}
use Rattle.relations.proofs.Single.{single-intertwiner}
use Rattle.check_columns.proofs.Carrying.{plain-conjugated, plain_moved}
use Rattle.check_columns.proofs.commutes_at.Goals as goal

pub moved-z-requires : goal.moved-z-requires
moved-z-requires c = let (K, L, e, i, j, h) = c.requires in (kept-stored K _ i, kept-column K _ h)

pub moved-t-requires : goal.moved-t-requires
moved-t-requires c = let (K, L, e, i, j, h) = c.requires in
    (kept-stored L _ i, kept-column L _ (subst (λ d. c.args.c < d) (sym e) h))

pub returns-then-d-eq1 : goal.returns-then-d-eq1
returns-then-d-eq1 c = λ P is.
    let a = c.args in
    let (K, L, e, i, j, h) = c.requires in
    let z = plain-conjugated a.s.m a.words.now a.d a.i a.c c.moved-z.result c.moved-z.ensures.0 c.moved-z.ensures.1 in
    single-intertwiner K c.if-d-eq1.true P a.i a.j a.c i j h [] is L e c.moved-t.result c.moved-z.result z
    c.moved-t.ensures.0

pub moved-y-requires : goal.moved-y-requires
moved-y-requires c = let (K, L, e, i, j, h) = c.requires in (kept-stored K _ j, kept-column K _ h)

pub moved-a-requires : goal.moved-a-requires
moved-a-requires c = let (K, L, e, i, j, h) = c.requires in (kept-stored K _ j, c.moved-z.ensures.1)

pub moved-b-requires : goal.moved-b-requires
moved-b-requires c = let (K, L, e, i, j, h) = c.requires in
    (kept-stored L _ i, subst (λ d. Below c.args.s.m d c.moved-y.result) (sym e) c.moved-y.ensures.1)

pub returns : goal.returns
returns c = λ P is.
    let x = c.args in
    c.eq.ensures ∙ entries-same c.moved-a.result c.moved-b.result
    ∙ plain_moved x.s.m x.words.now x.d x.e P x.i x.j x.c c.moved-z.ensures.0 c.moved-z.ensures.1 c.moved-y.ensures.0
    c.moved-a.ensures.0 c.moved-b.ensures.0 is
