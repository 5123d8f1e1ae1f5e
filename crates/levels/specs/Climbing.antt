-- The first levels as they stand in words.
--
--   BuiltTo              after i levels: what is written, where the last begins, and how many representations it has
--   LevelsWritten        for every accepted presentation that is given, its first i levels are written from the first word on
use Rattle.std.specs.Prelude.{◌≡◌, List, ℕ, ◌*◌, ◌-◌, ◌<◌, length}
use Rattle.clifford.specs.Accepted.{Accepted}
use Rattle.text.specs.Writing.{Wrote}
use Rattle.levels.specs.declared.Reached.{Reached}
use Rattle.levels.specs.Built.{up_to, level_of}
use Rattle.levels.specs.Given.{Given}

pub record BuiltTo (A : Accepted) (i base reps end : ℕ) (w₀ w : List ℕ) : Type 0 where
  pub wrote : Wrote w₀ 0 (up_to A i) w (8 * end)
  pub base_is : i < A.C.P.n → 8 * base ≡ length (up_to A (i - 1))
  pub reps_is : reps ≡ length (level_of A i)

abbrev pub LevelsWritten : (rows : List (List ℕ)) (primes : List ℕ) (n m i : ℕ) (words : List ℕ) (r : Reached) (words' : List ℕ) → Type 0
LevelsWritten rows primes n m i words r words' =
    (A : Accepted) → Given rows primes n m (length words) A → BuiltTo A i r.base r.reps r.end words words'
