-- `common_free` meets its contract: the columns before c have references that e has not.
use mathlib.Core.Path.{sym, ◌∙◌}
use native.Mathlib.Omega.{arith}
use Rattle.numbers.proofs.Tested.{tested-more, tested-all, tested-fails}
use Rattle.check_pairs.proofs.Columns.{free_at, free-test, free-is}
use Rattle.check_pairs.proofs.common_free.Goals as goal

pub returns-then-not-free_of : goal.returns-then-not-free_of
returns-then-not-free_of c = let a = c.args in
    let t = c.free_of in
    let w = c.word_at in
    let is = free-test a.words.now a.e.line a.e.deg a.d.line c.loop-c.c w.result w.ensures in
    tested-fails {q = free_at a.words.now a.e.line a.e.deg a.d.line} c.loop-c.invariant.3 (omega (arith, c.up-deg.ensures))
    (is ∙ sym t.ensures ∙ c.if-not-free_of.true)
    ∙ sym (free-is a.words.now a.d.line a.d.deg a.e.line a.e.deg)

pub loop-c-preserved : goal.loop-c-preserved
loop-c-preserved c = let a = c.args in
    let t = c.free_of in
    let w = c.word_at in
    let is = free-test a.words.now a.e.line a.e.deg a.d.line c.loop-c.c w.result w.ensures in
    (omega arith, c.loop-c.invariant.1, c.loop-c.invariant.2, tested-more c.loop-c.invariant.3 (is ∙ sym t.ensures ∙ c.if-not-free_of.false))

pub returns : goal.returns
returns c = let a = c.args in
    tested-all {q = free_at a.words.now a.e.line a.e.deg a.d.line} c.loop-c.invariant.3 (omega (arith, c.up-deg.ensures))
    ∙ sym (free-is a.words.now a.d.line a.d.deg a.e.line a.e.deg)
