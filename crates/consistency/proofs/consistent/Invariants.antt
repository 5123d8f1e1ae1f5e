-- `consistent` meets its contract: the test passed for every generator so far.
use mathlib.Core.Path.{◌≡◌}
use mathlib.Core.Bool.{true}
use lib.ListN.{length}
use Rattle.definitions.specs.Presentation.{max_generators}
use Rattle.definitions.specs.Lists.{all_below}
use Rattle.definitions.specs.Consistency.{level_test}
use Rattle.consistency.specs.Answers.{TestAnswer}
use Rattle.consistency.proofs.consistent.Given as goal

abbrev pub invariant-loop-i : goal.invariant-loop-i
invariant-loop-i l = (length l.images ≡ max_generators) × TestAnswer l.n l.primes l.rows (λ P. all_below l.i (level_test P)) true
