-- Sums of counted terms; numbers laid out in stretches; sums over a permutation.
--
--   sum-zero, sum-suc, sum_below, sum-plus, sum-mul, sum-const, sum-swap, sum-single, sum-split, sum-le, term-le
--   stretch-one, stretch-below, Owner, owner, sum-stretches
--                     stretches of lengths w 0, w 1, ..: number sum s w + κ is κ of stretch s
--   chosen            1 where two numbers are equal, else 0
--   sum-permuted      a sum does not change under a permutation
use mathlib.Core.Path.{◌≡◌, refl, sym, ◌∙◌, ap, ap₂}
use mathlib.Core.Logic.{by_cases}
use mathlib.Core.Bool.{cond}
use Prim.Native.Nat.{ℕ, zero, suc, ◌+◌, ◌*◌, ◌-◌, ◌≤◌, ◌<◌}
use native.Mathlib.Nat.{add-zero, add-suc, mul-zero, zero-mul}
use native.Mathlib.Omega.{arith}
use native.Mathlib.Decide.{dec_lt}
use lib.Dec.{eqb}
use Rattle.definitions.specs.Lists.{sum}
use Rattle.numbers.proofs.Bools.{cond-eq, cond-ne}

pub sum-zero : (g : ℕ → ℕ) → sum zero g ≡ 0
unfolding sum
sum-zero g = refl

pub sum-suc : (n : ℕ) (g : ℕ → ℕ) → sum (suc n) g ≡ sum n g + g n
unfolding sum
sum-suc n g = refl

pub sum_below : (n : ℕ) (g h : ℕ → ℕ) → ((k : ℕ) → k < n → g k ≡ h k) → sum n g ≡ sum n h
unfolding sum
sum_below zero g h q = refl
sum_below (suc n) g h q = ap₂ (◌+◌) (sum_below n g h (λ k l. q k (omega arith))) (q n (omega arith))

pub sum-plus : (n : ℕ) (g h : ℕ → ℕ) → sum n (λ k. g k + h k) ≡ sum n g + sum n h
unfolding sum
sum-plus zero g h = refl
sum-plus (suc n) g h = let r = sum-plus n g h in omega arith

pub sum-mul : (n c : ℕ) (g : ℕ → ℕ) → sum n (λ k. c * g k) ≡ c * sum n g
unfolding sum
sum-mul zero c g = sym (mul-zero c)
sum-mul (suc n) c g = let r = sum-mul n c g in omega arith

pub sum-const : (n c : ℕ) → sum n (λ k. c) ≡ n * c
unfolding sum
sum-const zero c = sym (zero-mul c)
sum-const (suc n) c = let r = sum-const n c in omega arith

pub sum-none : (n : ℕ) (g : ℕ → ℕ) → ((k : ℕ) → k < n → g k ≡ 0) → sum n g ≡ 0
sum-none n g h = sum_below n g (λ k. 0) h ∙ sum-const n 0 ∙ mul-zero n

pub sum-swap : (n m : ℕ) (g : ℕ → ℕ → ℕ) → sum n (λ a. sum m (g a)) ≡ sum m (λ b. sum n (λ a. g a b))
sum-swap zero m g = sum-zero _ ∙ sym (sum-none m (λ b. sum zero (λ a. g a b)) (λ k l. sum-zero _))
sum-swap (suc n) m g = sum-suc n _ ∙ ap (λ s. s + sum m (g n)) (sum-swap n m g)
    ∙ sym (sum_below m (λ b. sum (suc n) (λ a. g a b)) (λ b. sum n (λ a. g a b) + g n b) (λ k l. sum-suc n _) ∙ sum-plus m (λ b. sum n (λ a. g a b)) (g n))

pub sum-single : (n : ℕ) (g : ℕ → ℕ) (k : ℕ) → k < n → ((j : ℕ) → j < n → ¬ (j ≡ k) → g j ≡ 0) → sum n g ≡ g k
sum-single zero g k l z = absurd (omega arith)
sum-single (suc n) g k l z = sum-suc n g ∙ by_cases (dec_lt k n)
    (λ h. omega (arith, sum-single n g k h (λ j a b. z j (omega arith) b), z n (omega arith) (λ e. omega arith)))
    (λ h. let e : n ≡ k = omega arith in omega (arith, sum-none n g (λ j a. z j (omega arith) (λ b. omega arith)), ap g e))

pub sum-split : (a b : ℕ) (g : ℕ → ℕ) → sum (a + b) g ≡ sum a g + sum b (λ k. g (a + k))
sum-split a zero g = ap (λ s. sum s g) (add-zero a) ∙ omega (arith, sum-zero (λ k. g (a + k)))
sum-split a (suc b) g = ap (λ s. sum s g) (add-suc a b) ∙ omega (arith, sum-suc b (λ k. g (a + k)), sum-split a b g, sum-suc (a + b) g)

pub sum-le : (n : ℕ) (g h : ℕ → ℕ) → ((k : ℕ) → k < n → g k ≤ h k) → sum n g ≤ sum n h
unfolding sum
sum-le zero g h q = omega arith
sum-le (suc n) g h q = let a = sum-le n g h (λ k l. q k (omega arith)) in let b = q n (omega arith) in omega arith

-- ---- Stretches

module _ (w : ℕ → ℕ) where
  pub first-le : (s s' : ℕ) → s < s' → sum s w + w s ≤ sum s' w
  first-le s zero l = absurd (omega arith)
  first-le s (suc s') l = by_cases (dec_lt s s') (λ h. omega (arith, first-le s s' h, sum-suc s' w))
      (λ h. let e : s' ≡ s = omega arith in omega (arith, sum-suc s' w, ap (λ x. sum x w + w x) e))

  pub term-le : (n k : ℕ) → k < n → w k ≤ sum n w
  term-le n k l = omega (arith, first-le k n l)

  pub stretch-one : (s κ s' κ' : ℕ) → κ < w s → κ' < w s' → sum s w + κ ≡ sum s' w + κ' → (s ≡ s') × (κ ≡ κ')
  stretch-one s κ s' κ' a b q =
      let h : ¬ (s < s') = λ h. omega (arith, first-le s s' h) in
      let k : ¬ (s' < s) = λ h. omega (arith, first-le s' s h) in
      let e : s ≡ s' = omega arith in (e, omega (arith, ap (λ s. sum s w) e))

  pub stretch-below : (s κ N : ℕ) → κ < w s → s < N → sum s w + κ < sum N w
  stretch-below s κ N a b = omega (arith, first-le s N b)

  -- the stretch below N that holds r
  pub record Owner (N r : ℕ) : Type 0 where
    pub s : ℕ
    pub κ : ℕ
    pub s_below : s < N
    pub κ-below : κ < w s
    pub is : sum s w + κ ≡ r

  pub owner : (N r : ℕ) → r < sum N w → Owner N r
  owner zero r l = absurd (omega (arith, sum-zero w))
  owner (suc N) r l = by_cases (dec_lt r (sum N w))
      (λ h. let o = owner N r h in record { s = o.s; κ = o.κ; s_below = omega (arith, o.s_below); κ-below = o.κ-below; is = o.is })
      (λ h. record { s = N; κ = r - sum N w; s_below = omega arith; κ-below = omega (arith, sum-suc N w); is = omega arith })

  pub sum-stretches : (N : ℕ) (h : ℕ → ℕ) → sum (sum N w) h ≡ sum N (λ s. sum (w s) (λ κ. h (sum s w + κ)))
  sum-stretches zero h = ap (λ s. sum s h) (sum-zero w) ∙ sum-zero h ∙ sym (sum-zero _)
  sum-stretches (suc N) h =
      ap (λ s. sum s h) (sum-suc N w) ∙ sum-split (sum N w) (w N) h ∙ ap (λ s. s + sum (w N) (λ κ. h (sum N w + κ))) (sum-stretches N h) ∙ sym (sum-suc N _)

-- ---- Permutations

unfoldable pub chosen : ℕ → ℕ → ℕ
chosen r s = cond (eqb r s) 1 0

pub chosen-same : (r s : ℕ) → r ≡ s → chosen r s ≡ 1
unfolding chosen
chosen-same r s q = cond-eq r s 1 0 q

pub chosen-other : (r s : ℕ) → ¬ (r ≡ s) → chosen r s ≡ 0
unfolding chosen
chosen-other r s q = cond-ne r s 1 0 q

pub sum-permuted : (N : ℕ) (τ τ⁻ : ℕ → ℕ) → ((r : ℕ) → r < N → τ r < N) → ((r : ℕ) → r < N → τ⁻ r < N) → ((r : ℕ) → r < N → τ (τ⁻ r) ≡ r) → ((r : ℕ) → r < N → τ⁻ (τ r) ≡ r)
    → (h : ℕ → ℕ) → sum N (λ r. h (τ r)) ≡ sum N h
sum-permuted N τ τ⁻ a a⁻ b b⁻ h =
    let g : ℕ → ℕ → ℕ = λ r s. chosen s (τ r) * h s in
    let hit : (r s : ℕ) → s ≡ τ r → g r s ≡ h s = λ r s e. ap (λ x. x * h s) (chosen-same s (τ r) e) ∙ omega arith in
    sum_below N (λ r. h (τ r)) (λ r. sum N (g r)) (λ r l. sym (sum-single N (g r) (τ r) (a r l) (λ s k ne. ap (λ x. x * h s) (chosen-other s (τ r) ne) ∙ zero-mul (h s)) ∙ hit r (τ r) refl))
    ∙ sum-swap N N g
    ∙ sum_below N (λ s. sum N (λ r. g r s)) h (λ s l. sum-single N (λ r. g r s) (τ⁻ s) (a⁻ s l)
    (λ r k ne. ap (λ x. x * h s) (chosen-other s (τ r) (λ e. ne (sym (b⁻ r k) ∙ ap τ⁻ (sym e)))) ∙ zero-mul (h s)) ∙ hit (τ⁻ s) s (sym (b s l)))
