-- The value of a word on a representation of degree 1, by exponents.
--
--   word_sum T at u n             the exponents of the n lines from `at` on, each times that of the word u, added up
--   LinesValue T at src n x u y  these lines refer to x and are those from src on, and y is that sum
--   SingleValue s T g D u y      D fits on the level below, and y is the sum over its lines below the top
use Rattle.std.specs.Prelude.{◌≡◌, List, ℕ, ◌+◌, ◌*◌, get_or}
use Rattle.definitions.specs.Lists.{sum}
use Rattle.definitions.specs.Table.{EXP, word_at}
use Rattle.level.specs.declared.Listed.{Listed}
use Rattle.seek.specs.declared.Scope.{Scope}
use Rattle.compare.specs.declared.Stage.{Stage}
use Rattle.compare.specs.Shifted.{LinesSame}
use Rattle.compare.specs.Blocks.{RepFits}

abbrev pub word_sum : List ℕ → ℕ → List ℕ → ℕ → ℕ
word_sum T at u n = sum n (λ k. get_or u k 0 * word_at T (at + k) EXP)

pub record LinesValue (T : List ℕ) (at src n x : ℕ) (u : List ℕ) (y : ℕ) : Type 0 where
  pub same : LinesSame T at src n x
  pub value : y ≡ word_sum T at u n

pub record SingleValue (s : Scope) (T : List ℕ) (g : Stage) (D : Listed) (u : List ℕ) (y : ℕ) : Type 0 where
  pub fits : RepFits s T g D
  pub value : y ≡ word_sum T D.line u g.top
