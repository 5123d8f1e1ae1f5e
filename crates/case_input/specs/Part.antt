-- How much of a buffer is lent.
--
--   Part a len r      r is a, or len if that is less
use Rattle.std.specs.Prelude.{◌≡◌, ℕ, ◌<◌, ◌≤◌}

pub record Part (a len r : ℕ) : Type 0 where
  pub within : r ≤ len
  pub some : a ≤ len → r ≡ a
  pub all : len < a → r ≡ len
