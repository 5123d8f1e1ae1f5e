-- Table text word by word: each word and the byte behind it.
--
--   separator_of             the byte behind word k of a table
--   pieces                  words from number i on, each with its separator
use Rattle.std.specs.Prelude.{cond, List, [], ◌∷◌, ◌++◌, ℕ, suc, ◌%◌, eqb}
use Rattle.definitions.specs.Text.{Bytes, decimal}

unfoldable pub separator_of : ℕ → ℕ
separator_of k = cond (eqb (k % 8) 7) 10 32

unfoldable pub pieces : ℕ → List ℕ → Bytes
pieces i [] = []
pieces i (v ∷ vs) = decimal v ++ separator_of i ∷ pieces (suc i) vs
