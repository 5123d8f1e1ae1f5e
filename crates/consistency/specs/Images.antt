-- What the tables of images and the values over them say, for every presentation that primes and rows read.
--
--   Images i primes rows h m      the first m rows of h are images under conjugation by generator i; a fact (Images-prop)
--   Value i primes rows k x r     r is the value over the images of the first k exponents of x
use Rattle.std.specs.Prelude.{◌≡◌, List, [], ℕ, zero, suc, ◌<◌, get_or}
use Rattle.std.specs.Coded.{le_prop}
use Rattle.std.proofs.Math.Nat.{ℕ_set}
use Rattle.definitions.specs.Presentation.{NF, to_nf, value}
use Rattle.definitions.specs.Consistency.{forms, image}
use Rattle.group.specs.Context.{Context}
use Rattle.rows.specs.Rows.{Small, Reads}

-- the first m rows of h are the images of the generators under conjugation of level i by generator i
pub record Images (i : ℕ) (primes : List ℕ) (rows h : List (List ℕ)) (m : ℕ) : Type 0 where
  pub small : (k : ℕ) → k < m → Small i primes (get_or h k [])
  pub is : (C : Context) → Reads C.P (suc i) primes rows → (k : ℕ) → k < m → to_nf i (get_or h k []) ≡ image C.P i k

-- a table of images is a fact: it has at most one proof
NF-set : (i : ℕ) → IsSet (NF i)
NF-set zero = hlevel
NF-set (suc i) = let h = NF-set i in hlevel ℕ_set

pub Images-prop : {i : ℕ} {primes : List ℕ} {rows h : List (List ℕ)} {m : ℕ} → IsProp (Images i primes rows h m)
Images-prop {i} = let s = NF-set i in hlevel le_prop

-- r is the value over the images of the first k exponents of x
pub record Value (i : ℕ) (primes : List ℕ) (rows : List (List ℕ)) (k : ℕ) (x r : List ℕ) : Type 0 where
  pub small : Small i primes r
  pub is : (C : Context) → Reads C.P (suc i) primes rows → to_nf i r ≡ value (forms C.P i) (image C.P i) k (to_nf k x)
