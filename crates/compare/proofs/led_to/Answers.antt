-- `led_to` finds where the generator leads, compares degree and width, and then the block.
use mathlib.Core.Path.{◌≡◌, ◌∙◌, ap, subst}
use native.Mathlib.Omega.{arith}
use Rattle.definitions.specs.Table.{REF, word_at}
use Rattle.level.specs.Stored.{target_in}
use Rattle.compare.specs.Blocks.{TakesBlock}
use Rattle.compare.proofs.Shifted.{never}
use Rattle.compare.proofs.Staged.{found_inside, low-at, high-at, low-place, high-place}
use Rattle.compare.proofs.Blocks.{inside-matrix}
use Rattle.compare.proofs.led_to.Goals as goal

pub matrix_line-requires : goal.matrix_line-requires
matrix_line-requires c = omega (arith, inside-matrix c.requires.1.inside c.args.j c.requires.2, c.well_formed)

pub word_at-x-requires : goal.word_at-x-requires
word_at-x-requires c = let I = c.requires.1.inside in
    (omega (arith, inside-matrix I c.args.j c.requires.2, I.positive, c.matrix_line.ensures), omega arith)

pub returns-then-g-r : goal.returns-then-g-r
returns-then-g-r c = never

pub overflow_add-g : goal.overflow_add-g
overflow_add-g c = omega (arith, high-place c.requires.0 c.up-r.result (omega (arith, c.if-g-r.false)), c.well_formed)

pub rep_at-e-requires : goal.rep_at-e-requires
rep_at-e-requires c = high-place c.requires.0 c.up-r.result (omega (arith, c.if-g-r.false))

pub returns-then-e-d : goal.returns-then-e-d
returns-then-e-d c = never

pub word_at-requires : goal.word_at-requires
word_at-requires c = let S = c.requires.0 in
    let I = found_inside S.whole S.short (high-at S c.up-r.result (omega (arith, c.if-g-r.false)) c.rep_at-e.ensures c.up-r.ensures) in
    (omega (arith, inside-matrix I 0 S.whole.some, I.positive), omega arith)

pub returns-then-g-y : goal.returns-then-g-y
returns-then-g-y c = never

pub overflow_add-g-2 : goal.overflow_add-g-2
overflow_add-g-2 c = omega (arith, low-place c.requires.0 c.up-y.result (omega (arith, c.if-g-y.false)), c.well_formed)

pub rep_at-f-requires : goal.rep_at-f-requires
rep_at-f-requires c = low-place c.requires.0 c.up-y.result (omega (arith, c.if-g-y.false))

pub returns-then-f-part : goal.returns-then-f-part
returns-then-f-part c = never

pub generator_fits-requires : goal.generator_fits-requires
generator_fits-requires c = let S = c.requires.0 in
    let F = high-at S c.up-r.result (omega (arith, c.if-g-r.false)) c.rep_at-e.ensures c.up-r.ensures in
    (c.requires.1, found_inside S.whole S.short F, c.if-e-d.false, c.requires.2)

pub returns : goal.returns
returns c = λ e.
    let a = c.args in
    let S = c.requires.0 in
    let T = a.words.now in
    let x : c.word_at-x.result ≡ target_in T a.d a.j = c.word_at-x.ensures ∙ ap (λ l. word_at T l REF) c.matrix_line.ensures in
    record {
      target = c.rep_at-e.result;
      found = high-at S c.up-r.result (omega (arith, c.if-g-r.false)) c.rep_at-e.ensures (c.up-r.ensures ∙ x);
      degree = c.if-e-d.false;
      first = c.rep_at-f.result;
      refers = low-at S c.up-y.result (omega (arith, c.if-g-y.false)) c.rep_at-f.ensures (c.up-y.ensures ∙ c.word_at.ensures);
      width = c.if-f-part.false;
      carried = subst (TakesBlock a.s T a.d c.rep_at-e.result a.b a.j) x (c.generator_fits.ensures e);
    }
