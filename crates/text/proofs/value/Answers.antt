-- The digits are read one by one: `Run` is what has been read.
use Rattle.std.proofs.Common.{[], arith, refl, sym, subst}
use Prim.Native.Nat.{◌+◌, ◌*◌}
use Rattle.text.specs.Reading.{ReadAt}
use Rattle.text.proofs.Reading.{Run, byte-digit, byte-none, run_none, run-one, run_more, run_past, run_end}
use Rattle.text.proofs.value.Goals as goal

pub returns-in_err-v : goal.returns-in_err-v
returns-in_err-v c = subst (λ r. ReadAt [] c.args.text.now c.args.at r) (sym c.from_residual.ensures) (run_none c.digit_at.ensures c.in_err-v.was)

pub loop-at-init : goal.loop-at-init
loop-at-init c = run-one c.digit_at.ensures c.in_ok-v.was

pub returns-then-v-eq0 : goal.returns-then-v-eq0
returns-then-v-eq0 c = let digit = byte-digit c.byte_at.ensures c.byte_at.ensures c.loop-at-test.ensures.cases in
    run_past c.loop-at.invariant digit refl (λ p. omega (arith, c.then-v-eq0.either))

pub loop-at-preserved : goal.loop-at-preserved
loop-at-preserved c = let digit = byte-digit c.byte_at.ensures c.byte_at-in-loop-at.ensures c.loop-at-test.ensures.cases in
    subst (λ d. Run c.args.text.now c.args.at (c.loop-at.v * 10 + d) (c.loop-at.next + 1)) (sym c.from.ensures)
    (run_more c.loop-at.invariant digit refl (omega arith) (omega arith))

pub returns : goal.returns
returns c = run_end c.loop-at.invariant (byte-none c.byte_at.ensures c.loop-at-test.ensures.cases) refl
