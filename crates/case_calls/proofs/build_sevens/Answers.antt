-- `build_sevens`: the buffer keeps its length, which a law tells, since computing it takes too long.
use mathlib.Core.Path.{sym, ◌∙◌}
use Prim.Native.Nat.{ℕ}
use lib.ListN.{length-replicate}
use Rattle.case_calls.proofs.build_sevens.Goals as goal

pub slice_bounds-build_first-end : goal.slice_bounds-build_first-end
slice_bounds-build_first-end c = sym (length-replicate {0} {A = ℕ} 786240 7)

pub slice_bounds-mix_words-end : goal.slice_bounds-mix_words-end
slice_bounds-mix_words-end c = sym (c.build_first-made.auto.words ∙ length-replicate {0} {A = ℕ} 786240 7)
