-- The lines are tested one by one.
use mathlib.Core.Path.{◌∙◌, ap}
use Prim.Native.Nat.{◌+◌}
use native.Mathlib.Numerals.{add-one}
use native.Mathlib.Omega.{arith}
use borrow.Author.Rules.{rules}
use Rattle.std.proofs.lemmas.Iterator.{YieldsList-from_range}
use Rattle.std.proofs.lemmas.Iterator.Search.{all_from_yields_List}
use Rattle.definitions.specs.Lists.{all_below}
use Rattle.numbers.proofs.Tested.{all-of_range}
use Rattle.conditions.specs.Conditions.{pair_well}
use Rattle.conditions.proofs.judge.generator_well.Goals as goal

pub returns : goal.returns
returns c = let a = c.args in
    all_from_yields_List (λ i. pair_well a.rows.now a.ps.now a.primes.now a.n a.j i) _ _ _ c.all.ensures.ran
    (YieldsList-from_range 0 (a.j + 1) (a.j + 1) (cc) (omega arith)) (λ x b q k. search rules)
    ∙ all-of_range _ (a.j + 1) ∙ ap (λ k. all_below k (λ i. pair_well a.rows.now a.ps.now a.primes.now a.n a.j i)) (add-one a.j)
