-- `single_value` looks up what the representation refers to, and compares line by line.
use mathlib.Core.Path.{◌≡◌, ◌∙◌, ap}
use Prim.Native.Nat.{ℕ, ◌+◌}
use Rattle.std.specs.Prelude.{Option, Some, None, IfSome}
use Rattle.check_single.specs.Value.{LinesValue}
use native.Mathlib.Omega.{arith}
use Rattle.definitions.specs.Table.{REF, word_at}
use Rattle.compare.proofs.Staged.{low-at, low-place}
use Rattle.compare.proofs.Blocks.{inside-matrix, over, single-lines, lower-single, fitting-block}
use Rattle.check_single.proofs.Single.{based-at, takes_at, uppers-at, single-block}
use Rattle.check_single.proofs.single_value.Goals as goal

if-some : {P Q : ℕ → Type 0} → ((y : ℕ) → P y → Q y) → (r : Option ℕ) → IfSome r P → IfSome r Q
if-some f None h = h
if-some f (Some y) h = f y h

pub word_at-x-requires : goal.word_at-x-requires
word_at-x-requires c = let (S, I, one) = c.requires in
    (omega (arith, inside-matrix I 0 S.whole.some, I.positive), omega arith)

pub overflow_add-g : goal.overflow_add-g
overflow_add-g c = omega (arith, (low-place c.requires.0 c.up-r.result (omega (arith, c.if-g-r.false))).0, c.well_formed)

pub rep_at-f-requires : goal.rep_at-f-requires
rep_at-f-requires c = low-place c.requires.0 c.up-r.result (omega (arith, c.if-g-r.false))

pub single_takes-requires : goal.single_takes-requires
single_takes-requires c = let (S, I, one) = c.requires in
    let G = low-at S c.up-r.result (omega (arith, c.if-g-r.false)) c.rep_at-f.ensures c.up-r.ensures in
    (based-at 0 (over S I 0 G (omega (arith, c.if-f-ne1.false, one))), one, I, S.level.1)

pub singles_led-requires : goal.singles_led-requires
singles_led-requires c = let (S, I, one) = c.requires in
    let G = low-at S c.up-r.result (omega (arith, c.if-g-r.false)) c.rep_at-f.ensures c.up-r.ensures in
    (S, based-at 0 (over S I 0 G (omega (arith, c.if-f-ne1.false, one))), one)

pub lines_value-requires : goal.lines_value-requires
lines_value-requires c = let (S, I, one) = c.requires in
    let G = low-at S c.up-r.result (omega (arith, c.if-g-r.false)) c.rep_at-f.ensures c.up-r.ensures in
    let (a, b) = single-lines (over S I 0 G (omega (arith, c.if-f-ne1.false, one))) one S.level.1 in
    (a, b, omega (arith, S.level.1, S.whole.few))

pub returns : goal.returns
returns c = let a = c.args in
    let T = a.words.now in
    let (S, I, one) = c.requires in
    let G = low-at S c.up-r.result (omega (arith, c.if-g-r.false)) c.rep_at-f.ensures c.up-r.ensures in
    let O = over S I 0 G (omega (arith, c.if-f-ne1.false, one)) in
    let start : a.d.line ≡ a.d.line + 0 = omega arith in
    let H = low-at S c.up-r.result (omega (arith, c.if-g-r.false)) c.rep_at-f.ensures (c.up-r.ensures ∙ c.word_at-x.ensures) in
    if-some (λ y (L : LinesValue T a.d.line c.rep_at-f.result.line a.g.top c.word_at-x.result a.u.now y).
    record {
      fits = single-block one H c.if-f-ne1.false
          (fitting-block (c.word_at-x.ensures ∙ ap (λ l. word_at T l REF) start) G c.if-f-ne1.false (lower-single O one S.level.1 L.same)
          (takes_at _ (c.single_takes.ensures (c.if-not-single_takes.false)))
          (uppers-at _ (c.singles_led.ensures (c.if-not-singles_led.false))));
      value = L.value;
    }) c.lines_value.result c.lines_value.ensures
