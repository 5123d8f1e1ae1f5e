-- Sums over buffers.
--
--   mixed             a sum, with one more number
--   mixed_to           the sum over the first k numbers of a list
use Rattle.std.specs.Prelude.{List, ℕ, zero, suc, ◌+◌, ◌*◌, ◌%◌, get_or}

abbrev pub mixed : ℕ → ℕ → ℕ
mixed sum more = (sum * 31 + more) % 4294967291

unfoldable pub mixed_to : List ℕ → ℕ → ℕ
mixed_to ws zero = 0
mixed_to ws (suc k) = mixed (mixed_to ws k) (get_or ws k 0)
