-- `build_checked` is safe: the buffer keeps its length, which a law tells, since computing it takes too long.
use mathlib.Core.Path.{sym, ◌∙◌}
use Prim.Native.Nat.{ℕ}
use lib.ListN.{length-replicate}
use Rattle.large_cases.proofs.build_checked.Goals as goal

pub slice_bounds-build-end : goal.slice_bounds-build-end
slice_bounds-build-end c = sym (length-replicate {0} {A = ℕ} 3669792 7)

pub slice_bounds-mix_words-end : goal.slice_bounds-mix_words-end
slice_bounds-mix_words-end c = sym (c.build-made.auto.words ∙ length-replicate {0} {A = ℕ} 3669792 7)

pub slice_bounds-check_first_lines-end : goal.slice_bounds-check_first_lines-end
slice_bounds-check_first_lines-end c = sym (c.build-made.auto.words ∙ length-replicate {0} {A = ℕ} 3669792 7)
