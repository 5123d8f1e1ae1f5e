-- What product and conjugation of normal forms ask, and what they return for every presentation that primes and rows read.
--
--   Prepared m primes rows reach  what is asked of the first m generators
--   Alone rows m x r              where r is true, x has no exponent below m - 1, and nor has the power word of generator m - 1
--   Product, Image, Conjugate     a product; the conjugate of a generator; the conjugate of a form
--   Remaining                     how many turns are left, once a period is known
--   Power, Scaled, Turned         powers, a power times a form, and conjugates turn after turn
--   MultipliedInPlace, CarriedInPlace, TurnedInPlace     a product, that with a power word, and conjugates, each in place of a form
use Rattle.std.specs.Prelude.{◌≡◌, Bool, true, List, [], ℕ, suc, ◌-◌, ◌≤◌, ◌<◌, get_or}
use Rattle.definitions.specs.Lists.{iter}
use Rattle.definitions.specs.Presentation.{NF, to_nf, trivial, power, pair_number}
use Rattle.definitions.specs.Consistency.{mul, conj, forms}
use Rattle.group.specs.Context.{Context}
use Rattle.rows.specs.Rows.{Small, Ranged, Reads, Top, Kept}
use Rattle.commuting.specs.Commuting.{Quiet}

-- primes and rows are in range, and reach tells from where on each generator commutes with those below it
pub record Prepared (m : ℕ) (primes : List ℕ) (rows : List (List ℕ)) (reach : List ℕ) : Type 0 where
  pub ranged : Ranged m primes rows
  pub quiet : Quiet m rows reach

pub record Alone (rows : List (List ℕ)) (m : ℕ) (x : List ℕ) (r : Bool) : Type 0 where
  pub is : r ≡ true → (0 < m) × Top (m - 1) x 0 × Top (m - 1) (get_or rows (pair_number (m - 1) (m - 1)) []) 0

pub record Product (i : ℕ) (primes : List ℕ) (rows : List (List ℕ)) (x y r : List ℕ) : Type 0 where
  pub small : Small i primes r
  pub is : (C : Context) → Reads C.P i primes rows → to_nf i r ≡ mul C.P i (to_nf i x) (to_nf i y)

-- h is the conjugate of generator l by generator j
pub record Image (j l : ℕ) (primes : List ℕ) (rows : List (List ℕ)) (h : List ℕ) : Type 0 where
  pub small : Small (suc l) primes h
  pub is : (C : Context) → Reads C.P (suc j) primes rows → to_nf (suc l) h ≡ mul C.P (suc l) (1, trivial l) (C.P.w l j)

pub record Conjugate (k j : ℕ) (primes : List ℕ) (rows : List (List ℕ)) (x r : List ℕ) : Type 0 where
  pub small : Small k primes r
  pub is : (C : Context) → Reads C.P (suc j) primes rows → to_nf k r ≡ conj C.P k j (to_nf k x)

-- c is x after n turns of a map; r turns more lead where left turns more do
pub record Remaining (k : ℕ) (x c : List ℕ) (n left r : ℕ) : Type 0 where
  pub less : r ≤ left
  pub leads : (f : NF k → NF k) → iter f n (to_nf k x) ≡ to_nf k c → iter f r (to_nf k c) ≡ iter f left (to_nf k c)

-- r is x to the power e
pub record Power (i : ℕ) (primes : List ℕ) (rows : List (List ℕ)) (x r : List ℕ) (e : ℕ) : Type 0 where
  pub small : Small i primes r
  pub is : (C : Context) → Reads C.P i primes rows → to_nf i r ≡ power (forms C.P i) (to_nf i x) e

-- r is x to the power e, times v
pub record Scaled (i : ℕ) (primes : List ℕ) (rows : List (List ℕ)) (x : List ℕ) (e : ℕ) (v r : List ℕ) : Type 0 where
  pub small : Small i primes r
  pub is : (C : Context) → Reads C.P i primes rows → to_nf i r ≡ mul C.P i (power (forms C.P i) (to_nf i x) e) (to_nf i v)

-- r is x after b conjugations by generator i
pub record Turned (i b : ℕ) (primes : List ℕ) (rows : List (List ℕ)) (x r : List ℕ) : Type 0 where
  pub small : Small i primes r
  pub is : (C : Context) → Reads C.P (suc i) primes rows → to_nf i r ≡ iter (conj C.P i i) b (to_nf i x)

-- ---- In place: the exponents above stay

-- x times y, in place of x
pub record MultipliedInPlace (i : ℕ) (primes : List ℕ) (rows : List (List ℕ)) (x y r : List ℕ) : Type 0 where
  pub product : Product i primes rows x y r
  pub kept : Kept i x r

-- the power word of generator k times x, in place of x
pub record CarriedInPlace (k : ℕ) (primes : List ℕ) (rows : List (List ℕ)) (x r : List ℕ) : Type 0 where
  pub product : Product k primes rows (get_or rows (pair_number k k) []) x r
  pub kept : Kept k x r

-- x after b conjugations by generator k, in place of x
pub record TurnedInPlace (k b : ℕ) (primes : List ℕ) (rows : List (List ℕ)) (x r : List ℕ) : Type 0 where
  pub turned : Turned k b primes rows x r
  pub kept : Kept k x r
