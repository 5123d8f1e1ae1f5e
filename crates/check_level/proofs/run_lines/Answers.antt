-- `run_lines` goes on as long as the degree stays.
use mathlib.Core.Path.{◌≡◌, refl, sym, ◌∙◌}
use Prim.Native.Nat.{◌*◌, ◌≤◌}
use native.Mathlib.Nat.{mul-le-mul_right}
use native.Mathlib.Omega.{arith}
use Rattle.definitions.specs.Presentation.{max_generators}
use Rattle.level.proofs.Columns.{all_lines}
use Rattle.check_level.proofs.Lines.{running-there, running-small, running_more, running-stops, running-all}
use Rattle.check_level.proofs.run_lines.Goals as goal

pub word_at-requires : goal.word_at-requires
word_at-requires c = let step = all_lines c.args.d c.args.s.gens _ c.matrix_line.ensures in
    (running-there c.requires _ (c.loop-q.invariant c.args.s c.args.i c.requires step) (omega arith), omega arith)

pub returns-then-word_at-d : goal.returns-then-word_at-d
returns-then-word_at-d c = let step = all_lines c.args.d c.args.s.gens _ c.matrix_line.ensures in
    running-stops c.requires _ (c.loop-q.invariant c.args.s c.args.i c.requires step) (λ e. c.if-word_at-d.true (c.word_at.ensures ∙ e))

pub overflow_cast-firsts : goal.overflow_cast-firsts
overflow_cast-firsts c = let step = all_lines c.args.d c.args.s.gens _ c.matrix_line.ensures in
    omega (arith, running-small c.requires _ (c.loop-q.invariant c.args.s c.args.i c.requires step) c.loop-q-test.true)

pub bounds-firsts-at : goal.bounds-firsts-at
bounds-firsts-at c = let step = all_lines c.args.d c.args.s.gens _ c.matrix_line.ensures in
    let R = c.loop-q.invariant c.args.s c.args.i c.requires step in
    omega (arith, c.requires.room, c.loop-q-test.true, R.same)

pub overflow_add-line : goal.overflow_add-line
overflow_add-line c = let step = all_lines c.args.d c.args.s.gens _ c.matrix_line.ensures in
    let small = running-small c.requires _ (c.loop-q.invariant c.args.s c.args.i c.requires step) c.loop-q-test.true in
    let m : c.args.s.gens * c.args.d.deg ≤ max_generators * c.args.d.deg = mul-le-mul_right c.args.d.deg c.requires.whole.few in
    omega (arith, small, m, step, c.ranges)

pub loop-q-preserved : goal.loop-q-preserved
loop-q-preserved c = λ s i A st.
    let R = c.loop-q.invariant s i A st in
    let same : c.word_at.result ≡ c.args.d.deg = omega (arith, c.if-word_at-d.false) in
    running_more A _ R c.loop-q-test.true (sym c.word_at.ensures ∙ same) st (omega (arith, c.requires.room, c.loop-q-test.true, R.same)) refl

pub returns : goal.returns
returns c = let step = all_lines c.args.d c.args.s.gens _ c.matrix_line.ensures in
    running-all c.requires _ (c.loop-q.invariant c.args.s c.args.i c.requires step) (omega arith)
