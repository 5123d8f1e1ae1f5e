-- Which generators commute, as the rows of a presentation tell.
--
--   empty_at l x                   the row x says the trivial form of level l
--   keeps rows j l e              conjugation by generator j keeps an exponent e of generator l
--   KeepsFrom rows k j x r            it keeps the exponents of x from r up to k
--   Reach rows j r                it keeps every exponent from r up to j
--   Quiet m rows reach            from reach j on, generator j commutes with the generators below it
--   Commutes rows c i             generator c commutes with every generator up to i
--   Rise rows c r                 and with every one below r
--   Central m rows rise           below rise c, generator c commutes with every generator
use Rattle.std.specs.Prelude.{◌≡◌, Bool, true, ◌||◌, List, [], ℕ, suc, ◌≤◌, ◌<◌, get_or, eqb}
use Rattle.definitions.specs.Presentation.{to_nf, trivial, pair_number}
use Rattle.definitions.specs.Consistency.{same_form}

abbrev pub empty_at : ℕ → List ℕ → Bool
empty_at l x = same_form l (to_nf l x) (trivial l)

-- conjugation by generator j keeps an exponent e of generator l: e is 0, or the word of the two is empty
abbrev pub keeps : (rows : List (List ℕ)) (j l e : ℕ) → Bool
keeps rows j l e = eqb e 0 || empty_at (suc l) (get_or rows (pair_number j l) [])

-- conjugation by generator j keeps the exponents of x from r up to k
pub record KeepsFrom (rows : List (List ℕ)) (k j : ℕ) (x : List ℕ) (r : ℕ) : Type 0 where
  pub less : r ≤ k
  pub rest : (l : ℕ) → r ≤ l → l < k → keeps rows j l (get_or x l 0) ≡ true

-- conjugation by generator j keeps every exponent from r up to j
pub record Reach (rows : List (List ℕ)) (j r : ℕ) : Type 0 where
  pub rest : (l e : ℕ) → r ≤ l → l < j → keeps rows j l e ≡ true

pub record Quiet (m : ℕ) (rows : List (List ℕ)) (reach : List ℕ) : Type 0 where
  pub at : (j : ℕ) → j < m → Reach rows j (get_or reach j 0)

-- generator c commutes with every generator up to i
pub record Commutes (rows : List (List ℕ)) (c i : ℕ) : Type 0 where
  pub below : (l : ℕ) → l < c → keeps rows c l 1 ≡ true
  pub above : (j : ℕ) → c < j → j ≤ i → keeps rows j c 1 ≡ true

-- and with every one below r
pub record Rise (rows : List (List ℕ)) (c r : ℕ) : Type 0 where
  pub at : (i : ℕ) → i < r → Commutes rows c i

pub record Central (m : ℕ) (rows : List (List ℕ)) (rise : List ℕ) : Type 0 where
  pub at : (c : ℕ) → c < m → Rise rows c (get_or rise c 0)
