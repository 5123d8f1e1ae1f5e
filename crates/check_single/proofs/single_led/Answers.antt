-- `single_led` looks up where a generator leads.
use mathlib.Core.Path.{◌≡◌, sym, ◌∙◌, ap, subst}
use mathlib.Core.Bool.{false≢true}
use Prim.Native.Nat.{◌+◌}
use native.Mathlib.Omega.{arith}
use Rattle.definitions.specs.Table.{REF, word_at}
use Rattle.level.specs.Stored.{target_in}
use Rattle.compare.specs.Blocks.{block, TakesBlock}
use Rattle.compare.proofs.Staged.{found_inside, low-at, high-at, low-place, high-place}
use Rattle.compare.proofs.Blocks.{inside-matrix}
use Rattle.check_single.proofs.Single.{single-line, single-room, width_one}
use Rattle.check_single.proofs.single_led.Goals as goal

pub overflow_add-d : goal.overflow_add-d
overflow_add-d c = let (S, O, one, l) = c.requires in
    omega (arith, (single-room O one c.args.j l).0, c.up.ensures, c.well_formed)

pub word_at-x-requires : goal.word_at-x-requires
word_at-x-requires c = let (S, O, one, l) = c.requires in
    (omega (arith, (single-room O one c.args.j l).0, c.up.ensures), omega arith)

pub returns-then-g-r : goal.returns-then-g-r
returns-then-g-r c = λ e. absurd (false≢true e)

pub overflow_add-g : goal.overflow_add-g
overflow_add-g c = omega (arith, (high-place c.requires.0 c.up-r.result (omega (arith, c.if-g-r.false))).0, c.well_formed)

pub rep_at-e-requires : goal.rep_at-e-requires
rep_at-e-requires c = high-place c.requires.0 c.up-r.result (omega (arith, c.if-g-r.false))

pub returns-then-e-ne1 : goal.returns-then-e-ne1
returns-then-e-ne1 c = λ e. absurd (false≢true e)

pub word_at-requires : goal.word_at-requires
word_at-requires c = let S = c.requires.0 in
    let E = high-at S c.up-r.result (omega (arith, c.if-g-r.false)) c.rep_at-e.ensures c.up-r.ensures in
    let I = found_inside S.whole S.short E in
    (omega (arith, inside-matrix I 0 S.whole.some, I.positive), omega arith)

pub returns-then-g-y : goal.returns-then-g-y
returns-then-g-y c = λ e. absurd (false≢true e)

pub overflow_add-g-2 : goal.overflow_add-g-2
overflow_add-g-2 c = omega (arith, (low-place c.requires.0 c.up-y.result (omega (arith, c.if-g-y.false))).0, c.well_formed)

pub rep_at-h-requires : goal.rep_at-h-requires
rep_at-h-requires c = low-place c.requires.0 c.up-y.result (omega (arith, c.if-g-y.false))

pub returns-then-h-ne1 : goal.returns-then-h-ne1
returns-then-h-ne1 c = λ e. absurd (false≢true e)

pub single_takes-requires : goal.single_takes-requires
single_takes-requires c = let (S, O, one, l) = c.requires in
    let E = high-at S c.up-r.result (omega (arith, c.if-g-r.false)) c.rep_at-e.ensures c.up-r.ensures in
    (O, one, found_inside S.whole S.short E, l)

pub returns : goal.returns
returns c = λ e.
    let a = c.args in
    let (S, O, one, l) = c.requires in
    let T = a.words.now in
    let x : c.word_at-x.result ≡ target_in T a.d a.j
    = c.word_at-x.ensures ∙ ap (λ k. word_at T (a.d.line + k) REF) c.up.ensures
    ∙ ap (λ l. word_at T l REF) (sym (single-line O one a.j)) in
    record {
      target = c.rep_at-e.result;
      found = high-at S c.up-r.result (omega (arith, c.if-g-r.false)) c.rep_at-e.ensures (c.up-r.ensures ∙ x);
      degree = c.if-e-ne1.false ∙ sym one;
      first = c.rep_at-h.result;
      refers = low-at S c.up-y.result (omega (arith, c.if-g-y.false)) c.rep_at-h.ensures (c.up-y.ensures ∙ c.word_at.ensures);
      width = c.if-h-ne1.false ∙ sym (width_one O one);
      carried = subst (TakesBlock a.s T a.d c.rep_at-e.result (block 0 0 a.f) a.j) x (c.single_takes.ensures e);
    }
