-- How large a presentation is, told from its primes.
--
--   Measured              the order of n primes, and the words that a build wants
--   LevelOrders           the orders of levels 0 to n
use Rattle.std.specs.Prelude.{◌≡◌, List, ℕ, suc, ◌+◌, ◌*◌, ◌≤◌, length, get_or}
use Rattle.definitions.specs.Lists.{sum}
use Rattle.definitions.specs.Presentation.{max_generators, line_words}
use Rattle.conditions.specs.declared.size.Size.{Size}
use Rattle.conditions.specs.Conditions.{product}

pub record Measured (primes : List ℕ) (n : ℕ) (s : Size) : Type 0 where
  pub order_is : s.order ≡ product primes n
  pub words_are : s.words ≡ line_words * (n * sum n (λ i. product primes (suc i)))

pub record LevelOrders (primes : List ℕ) (n : ℕ) (orders : List ℕ) : Type 0 where
  pub long : length orders ≡ max_generators + 1
  pub each : (j : ℕ) → j ≤ n → get_or orders j 0 ≡ product primes j
