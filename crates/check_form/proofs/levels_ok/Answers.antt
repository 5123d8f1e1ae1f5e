-- `levels_ok` meets its contract: level after level.
use mathlib.Core.Path.{sym, ◌∙◌, subst}
use native.Mathlib.Omega.{arith}
use native.Mathlib.Numerals.{add-one}
use Rattle.numbers.proofs.Tested.{tested-more, tested-all, tested-fails}
use Rattle.check_form.specs.Form.{LevelOver}
use Rattle.check_form.proofs.Form.{over-next}
use Rattle.check_form.proofs.levels_ok.Goals as goal

pub level_ok-requires : goal.level_ok-requires
level_ok-requires c = let loop = c.loop-i in
    let T = c.args.words.now in
    (loop.invariant.0, over-next c.args.s T c.requires.0 loop.i c.count_of-many.result c.loop-i-test.true c.count_of-many.ensures)

pub returns-then-not-level_ok : goal.returns-then-not-level_ok
returns-then-not-level_ok c = let level-ok = c.level_ok in
    tested-fails c.loop-i.invariant.1 c.loop-i-test.true (sym level-ok.ensures ∙ c.if-not-level_ok.true)

pub loop-i-preserved : goal.loop-i-preserved
loop-i-preserved c = let level-ok = c.level_ok in
    let count_of = c.count_of-many in
    let loop = c.loop-i in
    let next = over-next c.args.s c.args.words.now c.requires.0 loop.i count_of.result c.loop-i-test.true count_of.ensures in (
      subst (λ k. LevelOver c.args.s c.args.words.now k count_of.result) (sym (add-one loop.i)) next,
      tested-more loop.invariant.1 (sym level-ok.ensures ∙ c.if-not-level_ok.false),
    )

pub returns : goal.returns
returns c = tested-all c.loop-i.invariant.1 (omega (arith, c.loop-i-test.false))
