-- `levels_to`: the levels below stand by its own contract, and the next is written behind them. The measure is the count of levels.
use mathlib.Core.Path.{◌≡◌, refl, sym}
use Prim.Native.Nat.{◌+◌, ◌-◌, ◌<◌}
use native.Mathlib.Omega.{arith}
use native.Mathlib.Nat.{le_refl}
use Rattle.levels.proofs.Stages.{built-as, first-asks, stage-one, stage-asks, stage-next}
use Rattle.levels.proofs.+levels_to.Goals as goal

pub first_level-end-requires : goal.first_level-end-requires
first_level-end-requires t c = first-asks c.requires.0.1 _ refl

pub returns-then-i-eq1 : goal.returns-then-i-eq1
returns-then-i-eq1 t c = λ A G. built-as (sym c.if-i-eq1.true) (stage-one G refl c.first_level-end.ensures)

pub next_level-t-requires : goal.next_level-t-requires
next_level-t-requires t c =
    let (A, G) = c.requires.0 in
    let some : 0 < c.args.i - 1 = omega (arith, c.requires.1, c.if-i-eq1.false) in
    let below : c.args.i - 1 < c.args.n = omega (arith, c.requires.1, c.requires.2) in
    stage-asks G some below refl (c.levels_to-b.ensures A G) (le_refl _)

pub returns : goal.returns
returns t c =
    let some : 0 < c.args.i - 1 = omega (arith, c.requires.1, c.if-i-eq1.false) in
    let below : c.args.i - 1 < c.args.n = omega (arith, c.requires.1, c.requires.2) in
    let same : c.args.i - 1 + 1 ≡ c.args.i = omega (arith, c.requires.1) in
    λ A G. built-as same (stage-next G some below refl (c.levels_to-b.ensures A G) _ _ c.next_level-t.ensures)
