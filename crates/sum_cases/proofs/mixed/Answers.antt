-- `mixed` is safe: the numbers of all pairs stand in the array.
use mathlib.Core.Path.{sym}
use lib.Seq.{length-take-le}
use native.Mathlib.Omega.{arith}
use Rattle.sum_cases.proofs.mixed.Goals as goal

pub slice_bounds-mix_words-end : goal.slice_bounds-mix_words-end
slice_bounds-mix_words-end c = let filled = c.all_pairs-pairs in sym (length-take-le _ filled.new.out (omega (arith, filled.ensures)))
