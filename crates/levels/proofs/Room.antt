-- How large the levels are: the squares of the degrees of a level add up to its order.
--
--   order-step, order_le       orders grow, and are at most that of the group
--   prime-le, whole            every prime is at most the order, and divides it
--   degree-le, reps-le, columns-le     degrees, representations and columns of a level are at most its order
--   lines-le, room             the words of the first levels have room in those that a build wants
--   lines-small                under the ceilings they are few
use mathlib.Core.Path.{◌≡◌, sym, ◌∙◌, ap, subst}
use Prim.Native.Nat.{ℕ, zero, suc, ◌+◌, ◌*◌, ◌-◌, ◌/◌, ◌≤◌, ◌<◌}
use native.Mathlib.Nat.{mul-le-mul, mul-le-mul_left, mul-le-mul_right, mul-div_right}
use native.Mathlib.Omega.{arith}
use lib.ListN.{length}
use Rattle.definitions.specs.Lists.{sum}
use Rattle.definitions.specs.Presentation.{max_generators, max_order, Presentation, order, build_words, line_words}
use Rattle.definitions.specs.Monomial.{Level}
use Rattle.definitions.specs.Steps.{levels}
use Rattle.numbers.proofs.Lists.{sum_mono}
use Rattle.numbers.proofs.Sums.{sum-le, sum-mul, sum-const, sum_below, term-le}
use Rattle.group.proofs.Order.{order-positive}
use Rattle.clifford.specs.Accepted.{Accepted}
use Rattle.clifford.proofs.Standing.{standing, setting, order-split}
use Rattle.levels.specs.Built.{up_to, lines_to, degree_in, WithinCeilings, level_of, modulus}
use Rattle.levels.proofs.Places.{up_to-length}

self-square : (d : ℕ) → d ≤ d * d
self-square zero = omega arith
self-square (suc d) = omega arith

module _ (A : Accepted) where
  abbrev P : Presentation
  P = A.C.P

  abbrev n : ℕ
  n = A.C.P.n

  abbrev m : ℕ
  m = order P n

  abbrev level : ℕ → Level
  level k = levels P m (suc k)

  abbrev d : ℕ → ℕ → ℕ
  d = degree_in A

  -- ---- Orders

  pub order-step : (i : ℕ) → order A.C.P i ≤ order A.C.P (suc i)
  unfolding order
  order-step i = let z : 1 * order P i ≤ P.p i * order P i = mul-le-mul_right (order P i) (omega (arith, A.C.two i)) in omega arith

  order-more : (i k : ℕ) → order P i ≤ order P (k + i)
  order-more i zero = let e : 0 + i ≡ i = omega arith in subst (λ x. order P i ≤ order P x) (sym e) (omega arith)
  order-more i (suc k) =
      let e : suc (k + i) ≡ suc k + i = omega arith in
      subst (λ x. order P i ≤ order P x) e (omega (arith, order-more i k, order-step (k + i)))

  pub order_le : (i : ℕ) → i ≤ A.C.P.n → order A.C.P i ≤ modulus A
  order_le i l = let e : n - i + i ≡ n = omega arith in subst (λ x. order P i ≤ order P x) e (order-more i (n - i))

  pub prime-le : (i : ℕ) → i < A.C.P.n → A.C.P.p i ≤ modulus A
  unfolding order
  prime-le i l =
      let a : P.p i * 1 ≤ P.p i * order P i = mul-le-mul_left (P.p i) (order-positive A.C i) in
      omega (arith, order_le (suc i) l)

  pub whole : (i : ℕ) → i < A.C.P.n → modulus A ≡ A.C.P.p i * (modulus A / A.C.P.p i)
  whole i l =
      let (s, q) = order-split P n i l in
      let e : m / P.p i ≡ order P i * s = ap (λ x. x / P.p i) q ∙ mul-div_right (order P i * s) (omega (arith, A.C.two i)) in
      q ∙ ap (λ x. P.p i * x) (sym e)

  -- ---- A level

  module _ (k : ℕ) (l : k < A.C.P.n) where
    squares : sum (length (level k)) (λ r. d k r * d k r) ≡ order P (suc k)
    squares = (standing (setting A) (suc k) l).stands.squares

    pub degree_pos : (r : ℕ) → r < length (level_of A (suc k)) → 0 < degree_in A k r
    degree_pos r h = (standing (setting A) (suc k) l).stands.degree_pos r h

    pub degree-le : (r : ℕ) → r < length (level_of A (suc k)) → degree_in A k r ≤ order A.C.P (suc k)
    degree-le r h = omega (arith, self-square (d k r), term-le (λ r. d k r * d k r) (length (level k)) r h, squares)

    pub columns-le : sum (length (level_of A (suc k))) (degree_in A k) ≤ order A.C.P (suc k)
    columns-le = subst (λ x. sum (length (level k)) (d k) ≤ x) squares (sum-le (length (level k)) (d k) (λ r. d k r * d k r) (λ r h. self-square (d k r)))

    pub reps-le : length (level_of A (suc k)) ≤ order A.C.P (suc k)
    reps-le = omega (arith, sum-le (length (level k)) (λ r. 1) (d k) (λ r h. degree_pos r h), sum-const (length (level k)) 1, columns-le)

  -- ---- All of them

  pub lines-le : (k : ℕ) → k ≤ A.C.P.n → lines_to A k ≤ A.C.P.n * sum k (λ i. order A.C.P (suc i))
  unfolding lines_to
  lines-le k l =
      subst (λ x. x ≤ n * sum k (λ i. order P (suc i)))
      (sym (sum_below k _ (λ i. n * sum (length (level i)) (d i)) (λ i h. sum-mul (length (level i)) n (d i)) ∙ sum-mul k n (λ i. sum (length (level i)) (d i))))
      (mul-le-mul_left n (sum-le k _ (λ i. order P (suc i)) (λ i h. columns-le i (omega arith))))

  pub room : (k : ℕ) → k ≤ A.C.P.n → length (up_to A k) ≤ build_words A.C.P
  unfolding build_words line_words
  room k l =
      let b : n * sum k (λ i. order P (suc i)) ≤ n * sum n (λ i. order P (suc i)) = mul-le-mul_left n (sum_mono k n (λ i. order P (suc i)) l) in
      omega (arith, lines-le k l, up_to-length A k)

  -- ---- Under the ceilings

  pub lines-small : WithinCeilings A → (k : ℕ) → k ≤ A.C.P.n → lines_to A k ≤ max_generators * (max_generators * max_order)
  lines-small S k l =
      let a = lines-le k l in
      let b : sum k (λ i. order P (suc i)) ≤ k * max_order =
      subst (λ x. sum k (λ i. order P (suc i)) ≤ x) (sum-const k max_order) (sum-le k (λ i. order P (suc i)) (λ i. max_order) (λ i h. below i h)) in
      let few : k ≤ max_generators = omega (arith, S.few) in
      let c : sum k (λ i. order P (suc i)) ≤ max_generators * max_order = omega (arith, mul-le-mul_right {m = k} {n = max_generators} max_order few) in
      omega (arith, mul-le-mul {n₁ = n} {m₁ = sum k (λ i. order P (suc i))} {n₂ = max_generators} {m₂ = max_generators * max_order} S.few c)
    where
      below : (i : ℕ) → i < k → order P (suc i) ≤ max_order
      below i h = omega (arith, order_le (suc i) (omega arith), S.low)
