-- `lent_levels`: the modulus, level 1, and then level by level.
use mathlib.Core.Path.{sym, ◌∙◌, ap}
use Prim.Native.Nat.{ℕ}
use native.Mathlib.Omega.{arith}
use lib.ListN.{get_or}
use Rattle.check_fit.specs.Fit.{Started, FitUpTo, FittingLevels}
use Rattle.check_fit.proofs.First.{started, up-to-one}
use Rattle.check_fit.proofs.Yes.{counted-pass}
use Rattle.check_fit.proofs.lent_levels.Goals.{Else-not-level_one}
use Rattle.check_fit.proofs.lent_levels.Goals as goal

starts : (e : Else-not-level_one) → let a = e.args in Started a.s a.words.now a.rows.now a.primes.now a.orders.now
starts e = let F = e.level_one.ensures (e.if-not-level_one.false) in
    started e.args.primes.now F (omega (arith, e.if-s-gt-MAX_LINES.false)) (e.requires.1, e.requires.2)

passes : {k : ℕ} (e : Else-not-level_one) → let a = e.args in
    FitUpTo a.s a.words.now a.rows.now a.primes.now a.orders.now k → FittingLevels a.s a.rows.now a.primes.now a.orders.now a.words.now k
passes e h = let F = e.level_one.ensures (e.if-not-level_one.false) in
    counted-pass F.heads F.whole (ap (λ k. get_or e.args.orders.now k 0) (sym e.up-n.ensures) ∙ e.if-orders-n.false) h

pub returns-then-s-eq1 : goal.returns-then-s-eq1
returns-then-s-eq1 c = passes (goal.at.returns-then-s-eq1 c).Else-not-level_one (up-to-one (starts (goal.at.returns-then-s-eq1 c).Else-not-level_one))

pub levels_fit-requires : goal.levels_fit-requires
levels_fit-requires c = starts (goal.at.levels_fit-requires c).Else-not-level_one

pub returns : goal.returns
returns c = passes (goal.at.returns c).Else-not-level_one c.levels_fit.ensures
