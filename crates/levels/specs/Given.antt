-- What building all levels asks, and what it leaves.
--
--   Given A            rows, primes and sizes are those of the accepted presentation A, and the words have room
--   AllWritten         for every such A, the words of all its levels are written from the first word on
use Rattle.std.specs.Prelude.{◌≡◌, List, ℕ, ◌*◌, ◌≤◌, length}
use Rattle.definitions.specs.Presentation.{order, build_words}
use Rattle.clifford.specs.Accepted.{Accepted}
use Rattle.text.specs.Writing.{Wrote}
use Rattle.rows.specs.Rows.{Reads}
use Rattle.levels.specs.Built.{up_to, WithinCeilings}

pub record Given (rows : List (List ℕ)) (primes : List ℕ) (n m have : ℕ) (A : Accepted) : Type 0 where
  pub small : WithinCeilings A
  pub n_is : n ≡ A.C.P.n
  pub m_is : m ≡ order A.C.P A.C.P.n
  pub reads : Reads A.C.P A.C.P.n primes rows
  pub room : build_words A.C.P ≤ have

abbrev pub AllWritten : (rows : List (List ℕ)) (primes : List ℕ) (n m : ℕ) (words : List ℕ) (lines : ℕ) (words' : List ℕ) → Type 0
AllWritten rows primes n m words lines words' = (A : Accepted) → Given rows primes n m (length words) A → Wrote words 0 (up_to A A.C.P.n) words' (8 * lines)
