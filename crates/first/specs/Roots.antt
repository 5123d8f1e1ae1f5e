-- Level 1: the powers of one root.
--
--   root_ref, root_exp           the reference and the exponent of generator g in power k
--   root_line, root_words        the line of a generator; the lines of power k
--   first_words                 the words of the level
--   WordsBelow                  the exponents of the lowest generator in its words with the generators above are below p
use Rattle.std.specs.Prelude.{cond, List, [], ◌∷◌, ℕ, suc, ◌*◌, ◌/◌, ◌%◌, ◌<◌, get_or, eqb}
use Rattle.definitions.specs.Lists.{blocks}
use Rattle.definitions.specs.Presentation.{pair_number}

unfoldable pub root_ref : (p : ℕ) → List (List ℕ) → (k g : ℕ) → ℕ
root_ref p rows k g = cond (eqb g 0) 0 (k * suc (get_or (get_or rows (pair_number g 0) []) 0 0) % p)

unfoldable pub root_exp : (p m k g : ℕ) → ℕ
root_exp p m k g = cond (eqb g 0) (k * (m / p)) 0

-- level rep deg gen ref col row exp
unfoldable pub root_line : (p m : ℕ) → List (List ℕ) → (k g : ℕ) → List ℕ
root_line p m rows k g = 1 ∷ k ∷ 1 ∷ suc g ∷ root_ref p rows k g ∷ 0 ∷ 0 ∷ root_exp p m k g ∷ []

unfoldable pub root_words : (n p m : ℕ) → List (List ℕ) → ℕ → List ℕ
root_words n p m rows k = blocks n (root_line p m rows k)

unfoldable pub first_words : (n p m : ℕ) → List (List ℕ) → List ℕ
first_words n p m rows = blocks p (root_words n p m rows)

pub record WordsBelow (n p : ℕ) (rows : List (List ℕ)) : Type 0 where
  pub below : (j : ℕ) → 0 < j → j < n → get_or (get_or rows (pair_number j 0) []) 0 0 < p
