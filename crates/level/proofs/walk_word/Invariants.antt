-- `walk_word`: after k generators row and exponent are what their part of the word makes of x.
use mathlib.Core.Path.{◌≡◌}
use Prim.Native.Nat.{ℕ, ◌+◌, ◌*◌}
use Rattle.definitions.specs.Presentation.{to_nf}
use Rattle.definitions.specs.Monomial.{entry}
use Rattle.formulas.specs.Formulas.{walk}
use Rattle.level.specs.Stored.{matrix_in, Below}
use Rattle.level.proofs.walk_word.Given as goal

abbrev pub invariant-loop-e : goal.invariant-loop-e
invariant-loop-e l = (l.g ≡ l.at + l.e-index * l.d) ×
    (entry l.row l.exp ≡ walk l.m (λ (j : ℕ). matrix_in l.words (l.at + j * l.d) l.d) l.e-index (to_nf l.e-index l.w) (entry l.initial.row l.initial.exp)) ×
    Below l.m l.d (entry l.row l.exp)
