-- `power_sum` is safe: the words of all columns stand in the array.
use mathlib.Core.Path.{sym}
use lib.Seq.{length-take-le}
use native.Mathlib.Omega.{arith}
use Rattle.power_cases.proofs.power_sum.Goals as goal

pub slice_bounds-mix_words-end : goal.slice_bounds-mix_words-end
slice_bounds-mix_words-end c = let p = c.store_power in
    sym (length-take-le _ p.new.out (omega (arith, c.up-n.ensures, p.ensures, c.requires)))
