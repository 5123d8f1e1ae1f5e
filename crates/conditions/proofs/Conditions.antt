-- Laws of the conditions of refusals 13 and 14.
--
--   product-zero, product-suc, product-order, product-mono     the product of primes
--   product-turn, elements-turn, turn-fits     a turn of the product and of the elements; it stays below the ceiling
--   words-fit, order-exceeds, order-within     the ceiling
--   primes-none, primes-more, primes-all      the primes of the first generators
--   orders-none, orders-more, orders-all, orders_are     the orders of the levels
use mathlib.Core.Path.{◌≡◌, refl, sym, ap, ap₂, subst, ◌∙◌}
use mathlib.Core.Logic.{by_cases}
use mathlib.Core.Bool.{true, false}
use mathlib.Core.List.{List}
use Prim.Native.Nat.{ℕ, zero, suc, ◌+◌, ◌*◌, ◌<◌, ◌≤◌}
use native.Mathlib.Nat.{mul-le-mul, mul-le-mul_right, mul_comm}
use native.Mathlib.Numerals.{add-one}
use native.Mathlib.Decide.{ℕ_discrete}
use native.Mathlib.Omega.{arith}
use lib.ListN.{get_or, set, replicate, length-set, length-replicate}
use lib.Seq.{get_or-set_same, get_or-set_other}
use lib.Dec.{leb}
use borrow.Author.Tests.{le-leb, lt-leb}
use Rattle.definitions.specs.Lists.{sum}
use Rattle.definitions.specs.Presentation.{max_generators, max_order, Presentation, order, pair_number}
use Rattle.numbers.proofs.Sums.{sum-suc}
use Rattle.conditions.specs.Conditions.{product, Primes}
use Rattle.conditions.specs.Size.{LevelOrders}

-- ---- The product of primes

pub product-zero : (primes : List ℕ) → product primes 0 ≡ 1
unfolding product
product-zero primes = refl

pub product-suc : (primes : List ℕ) (n : ℕ) → product primes (suc n) ≡ get_or primes n 0 * product primes n
unfolding product
product-suc primes n = refl

-- the product of a presentation's primes is its order
pub product-order : (P : Presentation) (primes : List ℕ) (n : ℕ) → ((j : ℕ) → j < n → get_or primes j 0 ≡ P.p j) → (m : ℕ) → m ≤ n
    → product primes m ≡ order P m
unfolding order product
product-order P primes n is zero l = refl
product-order P primes n is (suc m) l = ap₂ (λ (a b : ℕ). a * b) (is m l) (product-order P primes n is m (omega arith))

pub product-mono : (primes : List ℕ) (m n : ℕ) → m ≤ n → ((j : ℕ) → j < n → 0 < get_or primes j 0) → product primes m ≤ product primes n
product-mono primes m zero l h = let e : m ≡ 0 = omega arith in omega (arith, ap (product primes) e)
product-mono primes m (suc n) l h = by_cases (ℕ_discrete m (suc n))
    (λ q. omega (arith, ap (product primes) q))
    (λ q. omega (
      arith,
      product-mono primes m n (omega arith) (λ j b. h j (omega arith)),
      product-suc primes n,
      mul-le-mul_right {m = 1} {n = get_or primes n 0} (product primes n) (h n (omega arith)),
    ))

-- one prime more
pub product-turn : (primes : List ℕ) (j x y : ℕ) → x ≡ product primes j → y ≡ get_or primes j 0 → x * y ≡ product primes (j + 1)
product-turn primes j x y q r =
    mul_comm x y ∙ ap₂ (λ (a b : ℕ). a * b) r q ∙ sym (product-suc primes j) ∙ ap (product primes) (sym (add-one j))

pub turn-fits : (primes : List ℕ) (n j x y : ℕ) → ((k : ℕ) → k ≤ n → product primes k ≤ max_order) → j < n → x ≡ product primes j → y ≡ get_or primes j 0
    → x * y ≤ max_order
turn-fits primes n j x y b l q r = omega (arith, product-turn primes j x y q r, b (j + 1) (omega arith))

-- one level more of elements
pub elements-turn : (primes : List ℕ) (j x y : ℕ) → x ≡ sum j (λ i. product primes (suc i)) → y ≡ product primes (j + 1)
    → x + y ≡ sum (j + 1) (λ i. product primes (suc i))
elements-turn primes j x y q r =
    ap₂ (λ (a b : ℕ). a + b) q (r ∙ ap (product primes) (add-one j)) ∙ sym (sum-suc j (λ i. product primes (suc i)))
    ∙ ap (λ (k : ℕ). sum k (λ i. product primes (suc i))) (sym (add-one j))

-- the elements of j levels, for each of n generators
pub words-fit : (n j elements : ℕ) → n ≤ max_generators → j ≤ max_generators → elements ≤ j * max_order
    → n * elements ≤ max_generators * (max_generators * max_order)
words-fit n j elements a b c =
    let d : elements ≤ max_generators * max_order = omega (arith, mul-le-mul_right {m = j} {n = max_generators} max_order b) in
    mul-le-mul {n₁ = n} {m₁ = elements} {n₂ = max_generators} {m₂ = max_generators * max_order} a d

pub order-exceeds : (primes : List ℕ) (m n x : ℕ) → m ≤ n → ((j : ℕ) → j < n → 0 < get_or primes j 0) → x ≡ product primes m → max_order < x
    → leb (product primes n) max_order ≡ false
order-exceeds primes m n x l h q b = lt-leb (product primes n) max_order (omega (arith, product-mono primes m n l h))

pub order-within : (primes : List ℕ) (m n x : ℕ) → m ≡ n → x ≡ product primes m → x ≤ max_order → leb (product primes n) max_order ≡ true
order-within primes m n x l q b = le-leb (product primes n) max_order (omega (arith, ap (product primes) l))

-- ---- The primes of the first j generators

module _ {ps : List ℕ} where
  pub primes-none : Primes ps 0 (replicate max_generators 0)
  primes-none = record { each = λ g l. absurd (omega arith); long = length-replicate {A = ℕ} max_generators 0 }

  pub primes-more : {j : ℕ} {primes : List ℕ} (r : ℕ) → Primes ps j primes → j < max_generators → r ≡ pair_number j j
      → Primes ps (j + 1) (set primes j (get_or ps r 0))
  primes-more {j} {primes} r h l q =
      record { each = λ g b. pick g b (ℕ_discrete g j); long = length-set primes j (get_or ps r 0) ∙ h.long }
    where
      pick : (g : ℕ) → g < j + 1 → Dec (g ≡ j) → get_or (set primes j (get_or ps r 0)) g 0 ≡ get_or ps (pair_number g g) 0
      pick g b (yes w) =
          ap (λ (x : ℕ). get_or (set primes j (get_or ps r 0)) x 0) w
          ∙ get_or-set_same primes j (get_or ps r 0) 0 (omega (arith, h.long))
          ∙ ap (λ (x : ℕ). get_or ps x 0) (q ∙ ap (λ (x : ℕ). pair_number x x) (sym w))
      pick g b (no w) = get_or-set_other primes j g (get_or ps r 0) 0 w ∙ h.each g (omega arith)

  pub primes-all : {n : ℕ} {primes : List ℕ} {j : ℕ} → Primes ps j primes → n ≤ j → Primes ps n primes
  primes-all h l = record { each = λ g b. h.each g (omega arith); long = h.long }

-- ---- The orders of the levels

module _ {primes : List ℕ} where
  pub orders-none : LevelOrders primes 0 (replicate (max_generators + 1) 1)
  orders-none = record {
    long = length-replicate {A = ℕ} (max_generators + 1) 1;
    each = λ j l. let z : 0 ≡ j = omega arith in
        subst (λ (k : ℕ). get_or (replicate (max_generators + 1) 1) k 0 ≡ product primes k) z (sym (product-zero primes));
  }

  pub orders-more : {j : ℕ} {orders : List ℕ} (x : ℕ) → LevelOrders primes j orders → j < max_generators → x ≡ product primes (j + 1)
      → LevelOrders primes (j + 1) (set orders (j + 1) x)
  orders-more {j} {orders} x h l q =
      record { long = length-set orders (j + 1) x ∙ h.long; each = λ g b. pick g b (ℕ_discrete g (j + 1)) }
    where
      pick : (g : ℕ) → g ≤ j + 1 → Dec (g ≡ j + 1) → get_or (set orders (j + 1) x) g 0 ≡ product primes g
      pick g b (yes w) =
          ap (λ (k : ℕ). get_or (set orders (j + 1) x) k 0) w ∙ get_or-set_same orders (j + 1) x 0 (omega (arith, h.long))
          ∙ q ∙ ap (product primes) (sym w)
      pick g b (no w) = get_or-set_other orders (j + 1) g x 0 w ∙ h.each g (omega arith)

  pub orders-all : {n j : ℕ} {orders : List ℕ} → LevelOrders primes j orders → n ≤ j → LevelOrders primes n orders
  orders-all h l = record { long = h.long; each = λ g b. h.each g (omega arith) }

  -- they are those of a presentation with these primes
  pub orders_are : (P : Presentation) {n : ℕ} {orders : List ℕ} → LevelOrders primes n orders → ((j : ℕ) → j < n → get_or primes j 0 ≡ P.p j)
      → (k : ℕ) → k ≤ n → get_or orders k 0 ≡ order P k
  orders_are P {n} h is k l = h.each k l ∙ product-order P primes n is k l
