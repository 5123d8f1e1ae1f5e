-- `judge`: the levels that fit, then 21, then the others.
use mathlib.Core.Path.{◌≡◌, refl, subst}
use mathlib.Core.Bool.{Bool, true, false}
use Prim.Native.Nat.{ℕ, ◌/◌}
use mathlib.Core.List.{List}
use native.Mathlib.Omega.{arith}
use lib.ListN.{length}
use Rattle.conditions.specs.Size.{LevelOrders}
use Rattle.seek.specs.declared.Scope.{Scope}
use Rattle.check_form.specs.Form.{TellsForm}
use Rattle.checker.proofs.Phases.{counted_of, known-form, found-fitting, found-21, sorted_of, found-formed}
use Rattle.checker.proofs.judge.Goals.{After-level_orders-orders, After-well_formed-2}
use Rattle.checker.proofs.judge.Goals as goal

abbrev scope : List ℕ → ℕ → ℕ → Scope
scope T n m = record { lines = length T / 8; gens = n; m = m }

levels : (c : After-level_orders-orders) → LevelOrders c.args.primes.now c.args.n c.level_orders-orders.result
levels c = subst (λ k. LevelOrders c.args.primes.now k c.level_orders-orders.result) c.up.ensures c.level_orders-orders.ensures

-- what the test of the form told
told : (c : After-well_formed-2) (b : Bool) → c.well_formed-2.result ≡ b
    → TellsForm (scope c.args.words.now c.args.n c.args.m) c.level_orders-orders.result c.args.words.now b
told c b e = subst (TellsForm (scope c.args.words.now c.args.n c.args.m) c.level_orders-orders.result c.args.words.now) e c.well_formed-2.ensures

pub level_orders-orders-requires : goal.level_orders-orders-requires
level_orders-orders-requires c = let (A, K) = c.requires in
    record { n_le_max_generators = omega (arith, c.up.ensures, K.ready.few); by_index = λ j l. K.orders_fit j (omega (arith, l, c.up.ensures)) }

pub fitting_levels-from-requires : goal.fitting_levels-from-requires
fitting_levels-from-requires c = let (A, K) = c.requires in
    (counted_of _ (scope c.args.words.now c.args.n c.args.m) refl refl refl A K, K.modulus.0, K.modulus.1)

pub returns-then-from-n : goal.returns-then-from-n
returns-then-from-n c = found-fitting _ (scope c.args.words.now c.args.n c.args.m) refl refl refl
    (levels (goal.at.returns-then-from-n c).After-level_orders-orders) c.fitting_levels-from.ensures c.if-from-n.true

pub well_formed-requires : goal.well_formed-requires
well_formed-requires c = let (A, K) = c.requires in
    let s = scope c.args.words.now c.args.n c.args.m in (
      counted_of _ s refl refl refl A K,
      known-form _ s refl refl refl (levels (goal.at.well_formed-requires c).After-level_orders-orders) c.fitting_levels-from.ensures A K,
    )

pub returns-then-not-well_formed : goal.returns-then-not-well_formed
returns-then-not-well_formed c = let at = goal.at.returns-then-not-well_formed c in
    found-21 _ (scope c.args.words.now c.args.n c.args.m) refl refl refl (levels at.After-level_orders-orders) c.fitting_levels-from.ensures
    (told at.After-well_formed-2 false c.if-not-well_formed.true)

pub judge_formed-requires : goal.judge_formed-requires
judge_formed-requires c = let (A, K) = c.requires in
    let at = goal.at.judge_formed-requires c in (
      A,
      sorted_of _ (scope c.args.words.now c.args.n c.args.m) refl refl refl (levels at.After-level_orders-orders) c.fitting_levels-from.ensures
          (told at.After-well_formed-2 true c.if-not-well_formed.false) A K,
    )

pub returns : goal.returns
returns c = let at = goal.at.returns c in
    found-formed _ (scope c.args.words.now c.args.n c.args.m) refl refl refl (levels at.After-level_orders-orders) c.fitting_levels-from.ensures
    (told at.After-well_formed-2 true c.if-not-well_formed.false) c.judge_formed.ensures
