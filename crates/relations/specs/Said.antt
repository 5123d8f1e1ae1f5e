-- What the code holds of a presentation, and what it answers for every presentation of which it holds that.
--
--   Decides A q r          r is the answer of the test q, for every presentation with A
--   PowerOf j p u P        p is the prime of generator j, and u its power word
--   WordOf k j w P         w is the word of generators k < j
--   WordIn k j rows P      the rows say that word
--   ReadsIn s primes rows P    primes and rows are those of P
--   Spells s rows P        the rows say the words of all pairs of generators
--   SaysTop s rows i p P   p is the prime of generator i of P, and rows are its words with the generators above it
use Rattle.std.specs.Prelude.{◌≡◌, Bool, List, [], ℕ, suc, ◌<◌, get_or}
use Rattle.definitions.specs.Presentation.{Presentation, to_nf, pair_number}
use Rattle.rows.specs.Rows.{Reads}
use Rattle.seek.specs.declared.Scope.{Scope}

abbrev pub Decides : (Presentation → Type 0) → (Presentation → Bool) → Bool → Type 0
Decides A q r = (P : Presentation) → A P → r ≡ q P

pub record PowerOf (j p : ℕ) (u : List ℕ) (P : Presentation) : Type 0 where
  pub prime : p ≡ P.p j
  pub word : to_nf j u ≡ P.u j

pub record WordOf (k j : ℕ) (w : List ℕ) (P : Presentation) : Type 0 where
  pub word : to_nf (suc k) w ≡ P.w k j

abbrev pub WordIn : (k j : ℕ) → List (List ℕ) → Presentation → Type 0
WordIn k j rows = WordOf k j (get_or rows (pair_number j k) [])

abbrev pub ReadsIn : Scope → List ℕ → List (List ℕ) → Presentation → Type 0
ReadsIn s primes rows P = Reads P s.gens primes rows

pub record Spells (s : Scope) (rows : List (List ℕ)) (P : Presentation) : Type 0 where
  pub gens_are : s.gens ≡ P.n
  pub word : (k j : ℕ) → k < j → j < s.gens → WordIn k j rows P

pub record SaysTop (s : Scope) (rows : List (List ℕ)) (i p : ℕ) (P : Presentation) : Type 0 where
  pub prime : p ≡ P.p i
  pub power : to_nf i (get_or rows (pair_number i i) []) ≡ P.u i
  pub word : (j : ℕ) → i < j → j < s.gens → to_nf (suc i) (get_or rows (pair_number j i) []) ≡ P.w i j
