-- `words_empty`: the exponents are looked at in order, up to the first that is not 0.
use mathlib.Core.Path.{refl, sym, ◌∙◌}
use native.Mathlib.Omega.{arith}
use Rattle.commutators.proofs.Scan.{scanned-none, scanned-exponent, scanned-word, scanned-words, scanned-all, one_found}
use Rattle.commutators.proofs.words_empty.Goals as goal

pub scan-init : goal.scan-init
scan-init c = (refl, scanned-none)

pub loop-i-init : goal.loop-i-init
loop-i-init c = (omega arith, omega arith, c.scan.invariant.0, c.scan.invariant.1)

pub loop-k-init : goal.loop-k-init
loop-k-init c = let l = c.loop-i in
    (l.invariant.0, omega arith, omega arith, c.pair-at.ensures.0, c.pair-at.ensures.1, l.invariant.2, l.invariant.3)

pub loop-k-preserved : goal.loop-k-preserved
loop-k-preserved c = let inv = c.loop-k.invariant in
    (inv.0, inv.1, omega arith, inv.3, inv.4, inv.5, scanned-exponent inv.6 inv.3 c.if-rows-at-ne0.false)

pub loop-i-preserved : goal.loop-i-preserved
loop-i-preserved c = let inv = c.loop-k.invariant in
    (inv.0, omega arith, inv.5, scanned-word inv.6 (omega arith))

pub scan-preserved : goal.scan-preserved
scan-preserved c = let inv = c.loop-i.invariant in
    (inv.2, scanned-words inv.3 (omega arith))

pub returns-after-scan : goal.returns-after-scan
returns-after-scan c = let inv = c.scan.invariant in
    inv.0 ∙ sym (scanned-all inv.1 (omega arith))

pub returns-then-rows-at-ne0 : goal.returns-then-rows-at-ne0
returns-then-rows-at-ne0 c = let inv = c.loop-k.invariant in
    sym (one_found c.args.rows.now inv.0 inv.1 (omega arith) inv.3 c.if-rows-at-ne0.true)
