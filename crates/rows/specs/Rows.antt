-- Presentations as the code holds them: a prime for each generator, and a row of exponents for each pair of generators.
--
--   Small i primes x              the first i exponents of a row are below their primes
--   Ranged m primes rows          primes and rows of the first m generators are in range
--   Reads P m primes rows         they are those of the presentation P
--   Generator k r                 r is the row of generator k
--   Single k a r                  r has exponent a of generator k, and no other
--   Top i x r                     no exponent of x from r up to i
--   Stacked, Mixed                rows of two, with an exponent between and without
--   Kept i x r                    the exponents from i on are left
use Rattle.std.specs.Prelude.{◌≡◌, ◌≢◌, false, cond, List, [], ℕ, suc, ◌≤◌, ◌<◌, length, get_or, eqb}
use Rattle.definitions.specs.Text.{largest}
use Rattle.definitions.specs.Presentation.{max_generators, Presentation, to_nf, pair_number, allowed}

pub record Small (i : ℕ) (primes x : List ℕ) : Type 0 where
  pub below : (k : ℕ) → k < i → get_or x k 0 < get_or primes k 0

pub record Ranged (m : ℕ) (primes : List ℕ) (rows : List (List ℕ)) : Type 0 where
  pub few : m ≤ max_generators
  pub two : (k : ℕ) → k < m → 1 < get_or primes k 0
  pub bounded : (k : ℕ) → k < m → get_or primes k 0 ≤ largest
  pub word : (j i : ℕ) → i ≤ j → j < m → Small m primes (get_or rows (pair_number j i) [])

-- primes, power words and commutator words of the first m generators, with zeros where a word may not use a generator
pub record Reads (P : Presentation) (m : ℕ) (primes : List ℕ) (rows : List (List ℕ)) : Type 0 where
  pub p_is : (k : ℕ) → k < m → get_or primes k 0 ≡ P.p k
  pub u_is : (j : ℕ) → j < m → to_nf j (get_or rows (pair_number j j) []) ≡ P.u j
  pub w_is : (k j : ℕ) → k < j → j < m → to_nf (suc k) (get_or rows (pair_number j k) []) ≡ P.w k j
  pub rest : (j i k : ℕ) → i ≤ j → j < m → k < m → allowed j i k ≡ false → get_or (get_or rows (pair_number j i) []) k 0 ≡ 0

-- ---- Rows of exponents

pub record Generator (k : ℕ) (r : List ℕ) : Type 0 where
  pub at : (m : ℕ) → get_or r m 0 ≡ cond (eqb m k) 1 0

pub record Single (k a : ℕ) (r : List ℕ) : Type 0 where
  pub at : get_or r k 0 ≡ a
  pub rest : (m : ℕ) → m ≢ k → get_or r m 0 ≡ 0

-- no exponent of x from r up to i
pub record Top (i : ℕ) (x : List ℕ) (r : ℕ) : Type 0 where
  pub less : r ≤ i
  pub rest : (k : ℕ) → r ≤ k → k < i → get_or x k 0 ≡ 0

pub record Stacked (k : ℕ) (low high : List ℕ) (s : ℕ) (r : List ℕ) : Type 0 where
  pub below : (m : ℕ) → m < k → get_or r m 0 ≡ get_or low m 0
  pub at : get_or r k 0 ≡ s
  pub above : (m : ℕ) → k < m → get_or r m 0 ≡ get_or high m 0

-- low below q, high from q on
pub record Mixed (low high : List ℕ) (q : ℕ) (r : List ℕ) : Type 0 where
  pub long : length r ≡ length high
  pub below : (m : ℕ) → m < q → get_or r m 0 ≡ get_or low m 0
  pub above : (m : ℕ) → q ≤ m → get_or r m 0 ≡ get_or high m 0

-- the exponents of x from i on are still those of r
pub record Kept (i : ℕ) (x r : List ℕ) : Type 0 where
  pub long : length r ≡ length x
  pub above : (m : ℕ) → i ≤ m → get_or r m 0 ≡ get_or x m 0
