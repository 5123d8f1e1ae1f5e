-- Rows whose commutator words are empty.
--
--   rows_empty rows n        the word of every pair of the first n generators is
use Rattle.std.specs.Prelude.{ℕ, suc, Bool, List, [], get_or}
use Rattle.definitions.specs.Lists.{all_below}
use Rattle.definitions.specs.Presentation.{pair_number}
use Rattle.commuting.specs.Commuting.{empty_at}

abbrev pub rows_empty : (rows : List (List ℕ)) (n : ℕ) → Bool
rows_empty rows n = all_below n (λ j. all_below j (λ i. empty_at (suc i) (get_or rows (pair_number j i) [])))
