-- `claim` meets its contract, as one with a single reference or as any other.
use mathlib.Core.Path.{sym, ◌∙◌, ap, ap₂}
use Prim.Native.Nat.{◌+◌, ◌*◌, ◌/◌}
use Rattle.definitions.specs.Table.{EXP, word_at}
use Rattle.seek.specs.Among.{rep_in}
use Rattle.seek.proofs.Columns.{first_ref, exp-at}
use Rattle.claims.proofs.Claims.{claimed-many, claimed-one}
use Rattle.claims.proofs.claim.Goals as goal

pub returns-then-not-one_reference : goal.returns-then-not-one_reference
returns-then-not-one_reference c = let a = c.args in
    let D = rep_in a.words.now a.d in
    λ h. claimed-many a.i a.p a.part D _ _ _ _ c.one_reference.ensures (c.if-not-one_reference.true)
    (c.take_all.ensures h)

pub returns : goal.returns
returns c = let a = c.args in
    let T = a.words.now in
    let D = rep_in T a.d in
    let first = c.word_at-f.ensures ∙ sym (first_ref T a.d) in
    let line = ap (λ l. word_at T l EXP) c.matrix_line.ensures in
    let exponent = c.word_at-e.ensures ∙ line ∙ sym (exp-at T a.d.line a.d.deg a.i c.requires.0.positive) in
    let slot = c.slot.ensures ∙ ap₂ (λ b e. b * a.p + e / a.part) first exponent in
    λ h. claimed-one a.i a.p a.part D _ _ _ _ c.one_reference.ensures (c.if-not-one_reference.false) _ _ _
    (c.up.ensures ∙ first) slot (c.share.ensures h)
