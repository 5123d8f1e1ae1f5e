-- `single_word`: after k generators y is the exponent that their part of the word makes of e.
use mathlib.Core.Path.{◌≡◌}
use Prim.Native.Nat.{ℕ, ◌≤◌, ◌<◌, ◌-◌, ◌+◌, ◌*◌}
use Rattle.definitions.specs.Presentation.{to_nf}
use Rattle.definitions.specs.Monomial.{entry}
use Rattle.formulas.specs.Formulas.{walk}
use Rattle.level.specs.Stored.{matrix_in}
use Rattle.level.proofs.single_word.Given as goal

abbrev pub invariant-loop-k : goal.invariant-loop-k
invariant-loop-k l = (l.k ≤ l.n) × (entry 0 l.y ≡ walk l.m (λ (j : ℕ). matrix_in l.words (l.at + j * 1) 1) l.k (to_nf l.k l.w) (entry 0 l.e)) × (l.y < l.m)

abbrev pub decreases-loop-k : goal.decreases-loop-k
decreases-loop-k l = l.n - l.k
