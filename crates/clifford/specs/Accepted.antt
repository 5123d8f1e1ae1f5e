-- What is used of an accepted presentation.
--
--   Accepted       a context that passes the known test, whose primes have units, with some generator
use Rattle.std.specs.Prelude.{ℕ, ◌<◌}
use Rattle.numbers.proofs.Prime.{Units}
use Rattle.group.specs.Context.{Context}
use Rattle.group.proofs.Group.{Test}

pub record Accepted : Type 0 where
  pub C : Context
  pub tests : (k : ℕ) → k < C.P.n → Test C k
  pub units : (j : ℕ) → j < C.P.n → Units (C.P.p j)
  pub positive : 0 < C.P.n
