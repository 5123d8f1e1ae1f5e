-- Counted lists, sums and searches that the definitions share. Everything computes.
--
--   upto n            0, 1, .. n - 1
--   blocks n f        f 0, f 1, .. f (n - 1), one list behind the other
--   sum n f           f 0 + f 1 + .. + f (n - 1)
--   all_below n q      q holds of every number below n
--   any_below n q      q holds of some number below n
--   all q xs, any q xs    the same over a list
--   least n q         the least number below n of which q holds, and n where there is none
--   iter f k x        f applied k times to x
--   same xs ys        two lists of numbers are equal
use Rattle.std.specs.Prelude.{ℕ, zero, suc, ◌+◌, Bool, true, false, ◌&&◌, ◌||◌, cond, List, [], ◌∷◌, ◌++◌, eqb}

unfoldable pub upto : ℕ → List ℕ
upto zero = []
upto (suc n) = upto n ++ (n ∷ [])

unfoldable pub blocks : {A : Type 0} → ℕ → (ℕ → List A) → List A
blocks zero f = []
blocks (suc n) f = blocks n f ++ f n

unfoldable pub sum : ℕ → (ℕ → ℕ) → ℕ
sum zero f = 0
sum (suc n) f = sum n f + f n

unfoldable pub all_below : ℕ → (ℕ → Bool) → Bool
all_below zero q = true
all_below (suc n) q = all_below n q && q n

unfoldable pub any_below : ℕ → (ℕ → Bool) → Bool
any_below zero q = false
any_below (suc n) q = any_below n q || q n

unfoldable pub all : {A : Type 0} → (A → Bool) → List A → Bool
all q [] = true
all q (x ∷ xs) = q x && all q xs

unfoldable pub any : {A : Type 0} → (A → Bool) → List A → Bool
any q [] = false
any q (x ∷ xs) = q x || any q xs

-- the first of k, k + 1, .. of which q holds, in at most n trials
unfoldable pub least_from : ℕ → ℕ → (ℕ → Bool) → ℕ
least_from zero k q = k
least_from (suc n) k q = cond (q k) k (least_from n (suc k) q)

unfoldable pub least : ℕ → (ℕ → Bool) → ℕ
least n q = least_from n 0 q

unfoldable pub iter : {A : Type 0} → (A → A) → ℕ → A → A
iter f zero x = x
iter f (suc k) x = iter f k (f x)

unfoldable pub same : List ℕ → List ℕ → Bool
same [] [] = true
same [] (y ∷ ys) = false
same (x ∷ xs) [] = false
same (x ∷ xs) (y ∷ ys) = eqb x y && same xs ys
