-- A table to which refusal 21 does not apply, and what a test of it says.
--
--   Formed P s T                  T is a table of this scope that is well formed for the presentation P
--   Tells s T q r                 r is the answer of the test q, for every presentation for which T is well formed
--   Ordered P s orders            s counts the generators of P, and orders are those of its levels
--   Posed P s rows primes T       and rows and primes are those of P
--   TellsOf s rows primes T q r   the same as Tells for every such presentation
use Rattle.std.specs.Prelude.{◌≡◌, Bool, false, List, ℕ, ◌≤◌, ◌<◌, get_or}
use Rattle.definitions.specs.Presentation.{max_modulus, Presentation, order}
use Rattle.definitions.specs.Judgement.{malformed}
use Rattle.rows.specs.Rows.{Ranged, Reads}
use Rattle.seek.specs.declared.Scope.{Scope}
use Rattle.seek.specs.Seek.{Whole}

pub record Formed (P : Presentation) (s : Scope) (T : List ℕ) : Type 0 where
  pub whole : Whole s T
  pub gens_are : s.gens ≡ P.n
  pub modulus : (0 < s.m) × (s.m ≤ max_modulus)
  pub formed : malformed P s.m T ≡ false

pub record Tells (s : Scope) (T : List ℕ) (q : Presentation → Bool) (r : Bool) : Type 0 where
  pub is : (P : Presentation) → Formed P s T → r ≡ q P

pub record Ordered (P : Presentation) (s : Scope) (orders : List ℕ) : Type 0 where
  pub gens_are : s.gens ≡ P.n
  pub orders_are : (k : ℕ) → k ≤ P.n → get_or orders k 0 ≡ order P k

-- a presentation that the code holds in rows
pub record Posed (P : Presentation) (s : Scope) (rows : List (List ℕ)) (primes T : List ℕ) : Type 0 where
  pub formed : Formed P s T
  pub ready : Ranged s.gens primes rows
  pub reads : Reads P s.gens primes rows

pub record TellsOf (s : Scope) (rows : List (List ℕ)) (primes T : List ℕ) (q : Presentation → Bool) (r : Bool) : Type 0 where
  pub is : (P : Presentation) → Posed P s rows primes T → r ≡ q P
