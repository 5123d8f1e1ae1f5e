-- The generators are tested one by one.
use mathlib.Core.Path.{◌∙◌}
use Prim.Native.Nat.{suc}
use native.Mathlib.Omega.{arith}
use borrow.Author.Rules.{rules}
use Rattle.std.proofs.lemmas.Iterator.{YieldsList-from_range}
use Rattle.std.proofs.lemmas.Iterator.Search.{all_from_yields_List}
use Rattle.definitions.specs.Lists.{all_below}
use Rattle.numbers.proofs.Tested.{all-of_range}
use Rattle.conditions.specs.Conditions.{pair_well}
use Rattle.conditions.proofs.judge.well.Goals as goal

pub returns : goal.returns
returns c = let a = c.args in
    all_from_yields_List (λ j. all_below (suc j) (λ i. pair_well a.rows.now a.ps.now a.primes.now a.n j i)) _ _ _ c.all.ensures.ran
    (YieldsList-from_range 0 a.n a.n (cc) (omega arith)) (λ x b q k. search rules) ∙ all-of_range _ a.n
