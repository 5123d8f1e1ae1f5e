-- `all_intertwiners` tests the generators above the level one by one.
use mathlib.Core.Path.{◌∙◌}
use native.Mathlib.Omega.{arith}
use Rattle.numbers.proofs.Passed.{passed-more, passed-all, passed-fails}
use Rattle.relations.proofs.Intertwiners.{from-level, intertwiners-all}
use Rattle.relations.proofs.all_intertwiners.Goals as goal

pub returns-then-not-intertwiner : goal.returns-then-not-intertwiner
returns-then-not-intertwiner c = λ P S.
    let a = c.args in
    let t = c.intertwiner in
    let T = a.words.now in
    let (above, inv) = c.loop-j.invariant in
    passed-fails inv (omega arith) (λ P S. from-level a.s T a.d P a.i c.loop-j.j above (t.ensures P S)) (c.if-not-intertwiner.true) P S
    ∙ intertwiners-all a.s T a.d P a.i S.gens_are

pub loop-j-preserved : goal.loop-j-preserved
loop-j-preserved c = let a = c.args in
    let t = c.intertwiner in
    let T = a.words.now in
    let (above, inv) = c.loop-j.invariant in (
      omega arith,
      passed-more inv (λ P S. from-level a.s T a.d P a.i c.loop-j.j above (t.ensures P S)) (c.if-not-intertwiner.false),
    )

pub returns : goal.returns
returns c = λ P S.
    let a = c.args in
    let T = a.words.now in
    passed-all c.loop-j.invariant.1 (omega arith) P S ∙ intertwiners-all a.s T a.d P a.i S.gens_are
