-- The conditions of refusals 13 and 14 over kept rows and primes.
--
--   product                   the product of the first n primes
--   entry_well, row_wells, pair_well, all_well     an exponent, a word, a line and all lines as 14 wants them
--   Primes                    the primes among the list of every p
use Rattle.std.specs.Prelude.{◌≡◌, Bool, ◌&&◌, ◌||◌, List, [], ℕ, zero, suc, ◌*◌, ◌<◌, length, get_or, ltb, eqb}
use Rattle.definitions.specs.Lists.{all_below}
use Rattle.definitions.specs.Presentation.{max_generators, pair_number, allowed}

unfoldable pub product : List ℕ → ℕ → ℕ
product primes zero = 1
product primes (suc n) = get_or primes n 0 * product primes n

abbrev pub entry_well : (e p j i k : ℕ) → Bool
entry_well e p j i k = ltb e p && (allowed j i k || eqb e 0)

unfoldable pub row_wells : (row primes : List ℕ) (n j i : ℕ) → Bool
row_wells row primes n j i = all_below n (λ k. entry_well (get_or row k 0) (get_or primes k 0) j i k)

-- the line of (j, i), whose p is 0 where i < j
unfoldable pub pair_well : (rows : List (List ℕ)) (ps primes : List ℕ) (n j i : ℕ) → Bool
pair_well rows ps primes n j i =
    (eqb i j || eqb (get_or ps (pair_number j i) 0) 0) && row_wells (get_or rows (pair_number j i) []) primes n j i

abbrev pub all_well : (rows : List (List ℕ)) (ps primes : List ℕ) (n : ℕ) → Bool
all_well rows ps primes n = all_below n (λ j. all_below (suc j) (λ i. pair_well rows ps primes n j i))

pub record Primes (ps : List ℕ) (n : ℕ) (primes : List ℕ) : Type 0 where
  pub each : (j : ℕ) → j < n → get_or primes j 0 ≡ get_or ps (pair_number j j) 0
  pub long : length primes ≡ max_generators
