-- What the functions of the consistency test answer.
--
--   power_kept, commutator_kept, inner_at      the tests of one generator or one pair, of which the known test consists
--   TestAnswer m primes rows q r               r is the answer of q for every presentation that primes and rows read
--   Settles i primes rows q r              the same where the known test passes for every generator below i
--   DecidesTest n primes rows r                r is the known test of the relations that they say
use Rattle.std.specs.Prelude.{◌≡◌, Bool, true, false, List, ℕ, suc, ◌<◌}
use Rattle.definitions.specs.Lists.{iter}
use Rattle.definitions.specs.Presentation.{Presentation, Relations, power, value, well_formed, some_not_prime, misused, presentation}
use Rattle.definitions.specs.Consistency.{mul, conj, forms, generator, same_form, image, level_test, test}
use Rattle.group.specs.Context.{Context}
use Rattle.rows.specs.Rows.{Reads}

module _ (P : Presentation) (i : ℕ) where
  unfoldable pub power_kept : ℕ → Bool
  power_kept k = same_form i (power (forms P i) (image P i k) (P.p k)) (value (forms P i) (image P i) k (P.u k))

  unfoldable pub commutator_kept : ℕ → ℕ → Bool
  commutator_kept j k = same_form i
      (mul P i (image P i k) (image P i j))
      (mul P i (image P i j) (mul P i (image P i k) (value (forms P i) (image P i) (suc k) (P.w k j))))

  unfoldable pub inner_at : ℕ → Bool
  inner_at k = same_form i (mul P i (P.u i) (iter (conj P i i) (P.p i) (generator i k))) (mul P i (generator i k) (P.u i))

pub record TestAnswer (m : ℕ) (primes : List ℕ) (rows : List (List ℕ)) (q : Presentation → Bool) (r : Bool) : Type 0 where
  pub is : (C : Context) → Reads C.P m primes rows → r ≡ q C.P

-- the same where the known test passes for every generator below i
pub record Settles (i : ℕ) (primes : List ℕ) (rows : List (List ℕ)) (q : Presentation → Bool) (r : Bool) : Type 0 where
  pub is : (C : Context) → Reads C.P (suc i) primes rows → ((j : ℕ) → j < i → level_test C.P j ≡ true) → r ≡ q C.P

-- r tells whether the known test passes for relations that refusals 11, 12 and 14 let pass and whose presentation primes
-- and rows read
pub record DecidesTest (n : ℕ) (primes : List ℕ) (rows : List (List ℕ)) (r : Bool) : Type 0 where
  pub is : (R : Relations) → well_formed R ≡ true → some_not_prime R ≡ false → misused R ≡ false → n ≡ R.n → Reads (presentation R) n primes rows
      → r ≡ test (presentation R)
