-- `one_reference` meets its contract: the columns before c have the reference of column 0.
use mathlib.Core.Path.{◌≡◌, subst}
use mathlib.Core.Bool.{true, false}
use native.Mathlib.Omega.{arith}
use Rattle.definitions.specs.Table.{rep_at}
use Rattle.numbers.proofs.Tested.{tested-more, tested-all, tested-fails}
use Rattle.claims.specs.Claims.{one_reference}
use Rattle.claims.proofs.Claims.{same-reference, other-reference}
use Rattle.claims.proofs.one_reference.Goals as goal

pub returns-then-word_at-first : goal.returns-then-word_at-first
returns-then-word_at-first c = let a = c.args in
    let e = c.up-deg.ensures in
    let (low, room, first, tested) = c.loop-c.invariant in
    let T = a.words.now in
    let other = other-reference T a.d.line c.up-deg.result c.loop-c.c _ _ c.word_at.ensures first c.if-word_at-first.true in
    subst (λ deg. false ≡ one_reference (rep_at T a.d.line deg)) e (tested-fails tested (unfold rep_at in (omega arith)) other)

pub loop-c-preserved : goal.loop-c-preserved
loop-c-preserved c = let a = c.args in
    let (low, room, first, tested) = c.loop-c.invariant in
    let deg = c.up-deg.result in
    let e = c.word_at.ensures in
    let same = same-reference a.words.now a.d.line deg c.loop-c.c _ _ e first (omega (arith, c.if-word_at-first.false)) in
    (omega arith, room, first, tested-more tested same)

pub returns : goal.returns
returns c = let a = c.args in
    let e = c.up-deg.ensures in
    subst (λ deg. true ≡ one_reference (rep_at a.words.now a.d.line deg)) e (tested-all c.loop-c.invariant.3 (unfold rep_at in (omega arith)))
