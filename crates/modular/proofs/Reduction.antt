-- Numbers below 2m modulo m, and differences modulo m.
--
--   mod-once                   a number below 2m modulo m, where it is not below m
--   over, over-is, reduced     1 where a number reaches m, and what is left of it with m taken off then
--   less-is, less-below, less-above       differences modulo m of numbers below it
use mathlib.Core.Path.{◌≡◌, ap, sym, ◌∙◌}
use mathlib.Core.Logic.{by_cases}
use mathlib.Core.Bool.{cond}
use Prim.Native.Nat.{ℕ, ◌+◌, ◌-◌, ◌*◌, ◌/◌, ◌%◌, ◌<◌, ◌≤◌}
use native.Mathlib.Nat.{mod-eq_of_lt, mod-eq-sub-mod, mul-zero, mul-one}
use native.Mathlib.Omega.{arith}
use native.Mathlib.Decide.{dec_lt}
use lib.Dec.{leb}
use borrow.Author.Tests.{le-leb, lt-leb}
use Rattle.definitions.specs.Monomial.{less}

pub mod-once : (s m : ℕ) → m ≤ s → s < m + m → s - m ≡ s % m
mod-once s m h l = sym (mod-eq-sub-mod h ∙ mod-eq_of_lt (omega arith))

-- bit 31 of s + (2 ^ 31 - m)
abbrev pub over : ℕ → ℕ → ℕ
over s m = (s + (2147483648 - m)) / 2147483648

-- it is 1 where s reaches m
pub over-is : (s m : ℕ) → m ≤ 2147483648 → s < m + m → over s m ≡ cond (leb m s) 1 0
over-is s m h l = by_cases (dec_lt s m)
    (λ a. let e : over s m ≡ 0 = omega arith in e ∙ sym (ap (λ t. cond t 1 0) (lt-leb m s a)))
    (λ f. let e : over s m ≡ 1 = omega arith in e ∙ sym (ap (λ t. cond t 1 0) (le-leb m s (omega arith))))

-- m taken off where s reaches it, which leaves s modulo m
abbrev pub Reduced : ℕ → ℕ → Type 0
Reduced s m = (m * over s m ≤ s) × (s - m * over s m ≡ s % m) × (s % m < m)

pub reduced : (s m : ℕ) → m ≤ 2147483648 → s < m + m → Reduced s m
reduced s m h l = by_cases (dec_lt s m)
    (λ a.
    let e : m * over s m ≡ 0 = ap (λ t. m * t) (over-is s m h l ∙ ap (λ t. cond t 1 0) (lt-leb m s a)) ∙ mul-zero m in
    let q : s % m ≡ s = mod-eq_of_lt a in
    (omega arith, omega arith, omega arith))
    (λ f.
    let a : m ≤ s = omega arith in
    let e : m * over s m ≡ m = ap (λ t. m * t) (over-is s m h l ∙ ap (λ t. cond t 1 0) (le-leb m s a)) ∙ mul-one m in
    let q : s - m ≡ s % m = mod-once s m a l in
    (omega arith, omega arith, omega arith))

pub less-is : (m a b : ℕ) → b < m → (a + (m - b)) % m ≡ less m a b
unfolding less
less-is m a b l = sym (ap (λ z. (a + (m - z)) % m) (mod-eq_of_lt l))

pub less-below : (m a b : ℕ) → b ≤ a → a < m → b < m → a - b ≡ less m a b
less-below m a b h l k =
    let s : a - b ≡ a + (m - b) - m = omega arith in
    s ∙ mod-once (a + (m - b)) m (omega arith) (omega arith) ∙ less-is m a b k

pub less-above : (m a b : ℕ) → a < b → b < m → a + (m - b) ≡ less m a b
less-above m a b h k = sym (mod-eq_of_lt (omega arith)) ∙ less-is m a b k
