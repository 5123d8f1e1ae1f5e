-- Laws of the counted lists, tests and iterates that the definitions share.
--
--   below_suc                         a number below suc i is below i, or i
--   all_below-elim, all_below-intro     a test of every number below n, and what it says
--   all_below-fails                    a test that fails at one number
--   all_below-below                    two tests that agree below n
--   all_get_d, all-intro               a test of every element, at an index, and from all of them
--   blank                             an entry of a list of zeros
--   iter-zero, iter-suc, iter-add     iterates, their clauses and their sum
--   iter-map, iter-op, iter-fix       iterates under a map, of a product, at a fixed point
--   iter-round, iter-period           iterates of a point that comes back
--   length-upto, length-blocks        lengths
--   sum-ext, sum_mono                 equal terms; a longer sum is at least as large
--   triangle                          1 + 2 + .. + n
use mathlib.Core.Path.{◌≡◌, refl, sym, ◌∙◌, ap, ap₂, subst, fun_ext}
use mathlib.Core.Logic.{by_cases}
use mathlib.Core.Bool.{Bool, true, false, ◌&&◌, and-false}
use mathlib.Core.List.{List, [], ◌∷◌}
use Prim.Native.Nat.{ℕ, zero, suc, ◌+◌, ◌*◌, ◌/◌, ◌%◌, ◌≤◌, ◌<◌}
use native.Mathlib.Nat.{zero-add, suc-add, zero-mul, suc-mul, div-add-mod'}
use native.Mathlib.Omega.{arith}
use native.Mathlib.Decide.{dec_lt}
use lib.ListN.{length, get_or, replicate, length-append}
use Rattle.definitions.specs.Lists.{upto, blocks, sum, all_below, all, iter}
use Rattle.numbers.proofs.Bools.{and_left, and_right, and_intro}

pub below_suc : (i : ℕ) (Q : ℕ → Type 0) → ((k : ℕ) → k < i → Q k) → Q i → (k : ℕ) → k < suc i → Q k
below_suc i Q below top k l = by_cases (dec_lt k i) (below k) (λ h. let q : i ≡ k = omega arith in subst Q q top)

-- ---- Lists

pub blank : (n r : ℕ) → get_or {A = ℕ} (replicate n 0) r 0 ≡ 0
blank zero r = refl
blank (suc n) zero = refl
blank (suc n) (suc r) = blank n r

-- ---- Tests

pub all_below-elim : (n : ℕ) (q : ℕ → Bool) → all_below n q ≡ true → (k : ℕ) → k < n → q k ≡ true
unfolding all_below
all_below-elim zero q h k l = absurd (omega arith)
all_below-elim (suc n) q h k l = below_suc n (λ k. q k ≡ true) (all_below-elim n q (and_left (all_below n q) (q n) h)) (and_right (all_below n q) (q n) h) k l

pub all_below-intro : (n : ℕ) (q : ℕ → Bool) → ((k : ℕ) → k < n → q k ≡ true) → all_below n q ≡ true
unfolding all_below
all_below-intro zero q h = refl
all_below-intro (suc n) q h = and_intro _ _ (all_below-intro n q (λ k l. h k (omega arith))) (h n (omega arith))

pub all_below-fails : (n : ℕ) (q : ℕ → Bool) (k : ℕ) → k < n → q k ≡ false → all_below n q ≡ false
unfolding all_below
all_below-fails zero q k l h = absurd (omega arith)
all_below-fails (suc n) q k l h = below_suc n (λ k. q k ≡ false → all_below n q && q n ≡ false)
    (λ k a e. ap (λ t. t && q n) (all_below-fails n q k a e)) (λ e. ap (λ t. all_below n q && t) e ∙ and-false (all_below n q)) k l h

pub all_below-below : (n : ℕ) (q q' : ℕ → Bool) → ((k : ℕ) → k < n → q k ≡ q' k) → all_below n q ≡ all_below n q'
unfolding all_below
all_below-below zero q q' h = refl
all_below-below (suc n) q q' h = ap₂ (◌&&◌) (all_below-below n q q' (λ k l. h k (omega arith))) (h n (omega arith))

pub all_get_d : {A : Type 0} (q : A → Bool) (xs : List A) (d : A) → all q xs ≡ true → (k : ℕ) → k < length xs → q (get_or xs k d) ≡ true
unfolding all
all_get_d q [] d h k l = absurd (omega arith)
all_get_d q (x ∷ xs) d h zero l = and_left (q x) (all q xs) h
all_get_d q (x ∷ xs) d h (suc k) l = all_get_d q xs d (and_right (q x) (all q xs) h) k (omega arith)

pub all-intro : {A : Type 0} (q : A → Bool) (xs : List A) (d : A) → ((k : ℕ) → k < length xs → q (get_or xs k d) ≡ true) → all q xs ≡ true
unfolding all
all-intro q [] d h = refl
all-intro q (x ∷ xs) d h = and_intro (q x) (all q xs) (h 0 (omega arith)) (all-intro q xs d (λ k l. h (suc k) (omega arith)))

-- ---- Iterates

pub iter-zero : {A : Type 0} (f : A → A) (x : A) → iter f zero x ≡ x
unfolding iter
iter-zero f x = refl

pub iter-suc : {A : Type 0} (f : A → A) (k : ℕ) (x : A) → iter f (suc k) x ≡ iter f k (f x)
unfolding iter
iter-suc f k x = refl

pub iter-add : {A : Type 0} (f : A → A) (k l : ℕ) (x : A) → iter f l (iter f k x) ≡ iter f (k + l) x
iter-add f zero l x = simp (iter-zero, zero-add)
iter-add f (suc k) l x = simp (suc-add, iter-suc, iter-add f k l (f x))

pub iter-map : {A B : Type 0} (φ : A → B) (f : A → A) (g : B → B) → ((x : A) → φ (f x) ≡ g (φ x)) → (k : ℕ) (x : A) → φ (iter f k x) ≡ iter g k (φ x)
iter-map φ f g h zero x = simp iter-zero
iter-map φ f g h (suc k) x = simp (iter-suc, iter-map φ f g h k (f x), h)

pub iter-op : {A : Type 0} (f : A → A) (m : A → A → A) → ((x y : A) → f (m x y) ≡ m (f x) (f y)) → (k : ℕ) (x y : A) → iter f k (m x y) ≡ m (iter f k x) (iter f k y)
iter-op f m h zero x y = simp iter-zero
iter-op f m h (suc k) x y = simp (iter-suc, h, iter-op f m h k (f x) (f y))

pub iter-fix : {A : Type 0} (f : A → A) (x : A) → f x ≡ x → (k : ℕ) → iter f k x ≡ x
iter-fix f x h zero = simp iter-zero
iter-fix f x h (suc k) = simp (iter-suc, h, iter-fix f x h k)

-- whole periods lead nowhere
pub iter-round : {A : Type 0} (f : A → A) (k : ℕ) (x : A) → iter f k x ≡ x → (q : ℕ) → iter f (q * k) x ≡ x
iter-round f k x h zero = simp (zero-mul, iter-zero)
iter-round f k x h (suc q) = ap (λ m. iter f m x) (suc-mul q k) ∙ sym (iter-add f (q * k) k x) ∙ ap (iter f k) (iter-round f k x h q) ∙ h

pub iter-period : {A : Type 0} (f : A → A) (k : ℕ) (x : A) → iter f k x ≡ x → (m : ℕ) → iter f (m % k) x ≡ iter f m x
iter-period f k x h m = ap (iter f (m % k)) (sym (iter-round f k x h (m / k))) ∙ iter-add f (m / k * k) (m % k) x ∙ ap (λ t. iter f t x) (div-add-mod' m k)

-- ---- Lengths and sums

pub length-upto : (n : ℕ) → length (upto n) ≡ n
unfolding upto
length-upto zero = refl
length-upto (suc n) = length-append (upto n) (n ∷ []) ∙ omega (arith, length-upto n)

pub length-blocks : {A : Type 0} (n : ℕ) (f : ℕ → List A) → length (blocks n f) ≡ sum n (λ k. length (f k))
unfolding blocks sum
length-blocks zero f = refl
length-blocks (suc n) f = length-append (blocks n f) (f n) ∙ ap (λ t. t + length (f n)) (length-blocks n f)

pub sum-ext : (n : ℕ) (f g : ℕ → ℕ) → ((k : ℕ) → f k ≡ g k) → sum n f ≡ sum n g
sum-ext n f g h = ap (λ t. sum n t) (fun_ext h)

pub sum_mono : (n m : ℕ) (f : ℕ → ℕ) → n ≤ m → sum n f ≤ sum m f
unfolding sum
sum_mono n zero f l = let q : n ≡ 0 = omega arith in subst (λ k. sum k f ≤ sum 0 f) (sym q) (omega arith)
sum_mono n (suc m) f l = by_cases (dec_lt n (suc m)) (λ h. omega (arith, sum_mono n m f (omega arith)))
    (λ h. let q : suc m ≡ n = omega arith in subst (λ k. sum k f ≤ sum (suc m) f) q (omega arith))

-- 1 + 2 + .. + n
pub triangle : (n : ℕ) → n * (n + 1) / 2 ≡ sum n suc
unfolding sum
triangle zero = refl
triangle (suc n) = omega (arith, triangle n)
