-- `commutator_at` moves a column both ways, or where the degree is 1 by the word alone.
use mathlib.Core.Path.{◌∙◌, ap}
use Prim.Native.Nat.{◌+◌}
use native.Mathlib.Numerals.{add-one}
use native.Mathlib.Omega.{arith}
use Rattle.relations.proofs.Kept.{entries-same, kept-stored, kept-column, commutator-moved}
use Rattle.relations.proofs.Single.{single-commutator}
use Rattle.relations.proofs.commutator_at.Goals as goal

pub walked-t-requires : goal.walked-t-requires
walked-t-requires c = let (K, k, j, h) = c.requires in
    let e = c.up.ensures in
    (omega (arith, e, K.few), kept-stored K _ (omega (arith, e)), kept-column K _ h)

pub returns-then-d-eq1 : goal.returns-then-d-eq1
returns-then-d-eq1 c = λ P is.
    let a = c.args in
    let (K, k, j, h) = c.requires in
    let n = ap (λ x. x + 1) c.up.ensures ∙ add-one a.k in
    single-commutator K c.if-d-eq1.true P a.k a.j a.c k j h a.w.now is _ c.walked-t.result n c.walked-t.ensures.0
    c.walked-t.ensures.1

pub returns : goal.returns
returns c = λ P is.
    let b = c.moved-2 in
    let a = c.moved in
    let z = c.conjugated-z in
    let y = c.moved-y in
    let x = c.args in
    c.eq.ensures ∙ entries-same _ _
    ∙ commutator-moved x.s.m x.words.now x.d P x.k x.j x.c x.w.now y.result z.result a.result b.result
    y.ensures.0 z.ensures is a.ensures.0 b.ensures.0
