-- The exponents are tested one by one.
use mathlib.Core.Path.{◌∙◌}
use lib.ListN.{get_or}
use native.Mathlib.Omega.{arith}
use borrow.Author.Rules.{rules}
use Rattle.std.proofs.lemmas.Iterator.{YieldsList-from_range}
use Rattle.std.proofs.lemmas.Iterator.Search.{all_from_yields_List}
use Rattle.numbers.proofs.Tested.{all-of_range}
use Rattle.conditions.specs.Conditions.{row_wells, entry_well}
use Rattle.conditions.proofs.judge.row_well.Goals as goal

pub returns : goal.returns
unfolding row_wells
returns c = let a = c.args in
    all_from_yields_List (λ k. entry_well (get_or a.row.now k 0) (get_or a.primes.now k 0) a.j a.i k) _ _ _ c.all.ensures.ran
    (YieldsList-from_range 0 a.n a.n (cc) (omega arith)) (λ x b q k. search rules) ∙ all-of_range _ a.n
