-- What judging a table asks of the presentation, and what it answers. The code has rows and primes and not the presentation:
-- what it asks is known of some accepted presentation, and what it answers is said of all that have these rows.
--
--   Task A n m rows primes              rows, primes and n are those of the accepted presentation A, and m is a modulus
--   SomeTask                            the same for some presentation
--   Judged n m rows primes T a          a is the number of the judgement of T, for every such presentation
--   Sorted A s rows primes orders T k   the same of a table to which 21 does not apply and whose first k levels pass, with the
--                                       orders of the levels
--   SomeSorted, JudgedFormed           for some, and for every such presentation
use Rattle.std.specs.Prelude.{◌≡◌, List, ℕ, ◌≤◌, ◌<◌}
use Rattle.definitions.specs.Presentation.{max_order, max_modulus}
use Rattle.definitions.specs.Answers.{judgement}
use Rattle.rows.specs.Rows.{Ranged, Reads}
use Rattle.conditions.specs.Conditions.{product}
use Rattle.clifford.specs.Accepted.{Accepted}
use Rattle.clifford.specs.Passing.{LevelPasses}
use Rattle.seek.specs.declared.Scope.{Scope}
use Rattle.seek.specs.Formed.{Ordered, Posed}

pub record Task (A : Accepted) (n m : ℕ) (rows : List (List ℕ)) (primes : List ℕ) : Type 0 where
  pub gens_are : n ≡ A.C.P.n
  pub modulus : (0 < m) × (m ≤ max_modulus)
  pub ready : Ranged n primes rows
  pub reads : Reads A.C.P n primes rows
  pub orders_fit : (j : ℕ) → j ≤ n → product primes j ≤ max_order

abbrev pub SomeTask : (n m : ℕ) → List (List ℕ) → List ℕ → Type 0
SomeTask n m rows primes = (A : Accepted) × Task A n m rows primes

pub record Judged (n m : ℕ) (rows : List (List ℕ)) (primes T : List ℕ) (a : ℕ) : Type 0 where
  pub is : (A : Accepted) → Task A n m rows primes → a ≡ judgement A.C.P m T

pub record Sorted (A : Accepted) (s : Scope) (rows : List (List ℕ)) (primes orders T : List ℕ) (k : ℕ) : Type 0 where
  pub posed : Posed A.C.P s rows primes T
  pub ordered : Ordered A.C.P s orders
  pub within : k ≤ A.C.P.n
  pub passed : (i : ℕ) → i < k → LevelPasses A.C.P s.m T i

abbrev pub SomeSorted : Scope → List (List ℕ) → (primes orders T : List ℕ) → ℕ → Type 0
SomeSorted s rows primes orders T k = (A : Accepted) × Sorted A s rows primes orders T k

pub record JudgedFormed (s : Scope) (rows : List (List ℕ)) (primes orders T : List ℕ) (k a : ℕ) : Type 0 where
  pub is : (A : Accepted) → Sorted A s rows primes orders T k → a ≡ judgement A.C.P s.m T
