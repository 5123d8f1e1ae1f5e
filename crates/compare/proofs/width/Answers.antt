-- `width`: one block, or p blocks of which the first is moved.
use mathlib.Core.Path.{refl, sym, ◌∙◌, ap, ap₂}
use mathlib.Core.Logic.{inl, inr}
use Prim.Native.Nat.{◌*◌, ◌≤◌}
use native.Mathlib.Nat.{mul-le-mul_left}
use native.Mathlib.Omega.{arith}
use Rattle.definitions.specs.Table.{REF, word_at}
use Rattle.compare.proofs.Staged.{found_inside, low-at, low-place}
use Rattle.compare.proofs.Blocks.{inside-matrix}
use Rattle.compare.proofs.width.Goals as goal

pub word_at-x-requires : goal.word_at-x-requires
word_at-x-requires c = let I = c.requires.1 in
    (omega (arith, inside-matrix I 0 c.requires.0.whole.some, I.positive), omega arith)

pub overflow_add-g : goal.overflow_add-g
overflow_add-g c = omega (arith, low-place c.requires.0 c.up-r.result (omega (arith, c.if-g-r.false)), c.well_formed)

pub rep_at-f-requires : goal.rep_at-f-requires
rep_at-f-requires c = low-place c.requires.0 c.up-r.result (omega (arith, c.if-g-r.false))

pub returns-then-f-d : goal.returns-then-f-d
returns-then-f-d c =
    record {
      first = c.rep_at-f.result;
      found = low-at c.requires.0 c.up-r.result (omega (arith, c.if-g-r.false)) c.rep_at-f.ensures (c.up-r.ensures ∙ c.word_at-x.ensures);
      width = refl;
      split = inl (sym c.if-f-d.true);
    }

pub overflow_mul-up : goal.overflow_mul-up
overflow_mul-up c = let S = c.requires.0 in
    let F = low-at S c.up-r.result (omega (arith, c.if-g-r.false)) c.rep_at-f.ensures c.up-r.ensures in
    let n : c.up-2.result ≤ 16777216 = omega (arith, c.up-2.ensures, (found_inside S.whole S.short F).narrow) in
    let q : c.up.result * c.up-2.result ≤ c.up.result * 16777216 = mul-le-mul_left c.up.result n in
    omega (arith, q, c.up.ensures)

pub matrix_line-requires : goal.matrix_line-requires
matrix_line-requires c = let S = c.requires.0 in
    let F = low-at S c.up-r.result (omega (arith, c.if-g-r.false)) c.rep_at-f.ensures c.up-r.ensures in
    omega (arith, inside-matrix (found_inside S.whole S.short F) c.args.g.top S.level.1, c.well_formed)

pub word_at-requires : goal.word_at-requires
word_at-requires c = let S = c.requires.0 in
    let F = low-at S c.up-r.result (omega (arith, c.if-g-r.false)) c.rep_at-f.ensures c.up-r.ensures in
    (omega (arith, inside-matrix (found_inside S.whole S.short F) c.args.g.top S.level.1, F.positive, c.matrix_line.ensures), omega arith)

pub returns : goal.returns
returns c =
    let a = c.args in
    let T = a.words.now in
    record {
      first = c.rep_at-f.result;
      found = low-at c.requires.0 c.up-r.result (omega (arith, c.if-g-r.false)) c.rep_at-f.ensures (c.up-r.ensures ∙ c.word_at-x.ensures);
      width = refl;
      split = inr (
        sym c.up-3.ensures ∙ sym c.if-up.false ∙ ap₂ ◌*◌ c.up.ensures c.up-2.ensures,
        λ e. c.if-word_at-x.false (c.word_at.ensures ∙ ap (λ l. word_at T l REF) c.matrix_line.ensures ∙ e ∙ sym c.word_at-x.ensures),
      );
    }
