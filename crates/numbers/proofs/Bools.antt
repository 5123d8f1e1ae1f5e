-- Tests: both sides of a conjunction, and a choice whose test is known.
--
--   and_left, and_right, and_intro      a && b is true exactly if both are
--   and_last                            a && b is false if b is
--   or_cases                            a || b is true: one of the two is
--   or_left, or_right                   a || b is true if one of the two is
--   or-false-left, or-false-right       a || b is false: both are
--   same_test                           two tests that pass together are one
--   refuted                             a test that cannot pass
--   compared                            what follows from an order of two numbers each way
--   cond-true, cond-false               a choice by a test that is known
--   cond-lt, cond-ge, cond-eq, cond-ne  a choice by a comparison of numbers
use mathlib.Core.Path.{◌≡◌, refl, sym, ◌∙◌, ap}
use mathlib.Core.Bool.{Bool, true, false, ◌&&◌, ◌||◌, cond, true≢false, false≢true, and-eq-true_iff, and-false, or-true}
use mathlib.Core.Logic.{◌≢◌, by_cases}
use Prim.Native.Nat.{ℕ, ◌≤◌, ◌<◌}
use native.Mathlib.Omega.{arith}
use native.Mathlib.Decide.{dec_lt}
use lib.Dec.{ltb, eqb}
use borrow.Author.Tests.{lt-ltb, le-ltb, eq-eqb, ne_eqb}

pub and_left : (a b : Bool) → a && b ≡ true → a ≡ true
and_left a b h = ((and-eq-true_iff a b).0 h).0

pub and_right : (a b : Bool) → a && b ≡ true → b ≡ true
and_right a b h = ((and-eq-true_iff a b).0 h).1

pub and_intro : (a b : Bool) → a ≡ true → b ≡ true → a && b ≡ true
and_intro a b h k = (and-eq-true_iff a b).1 (h, k)

pub and_last : (a b : Bool) → b ≡ false → a && b ≡ false
and_last a b h = ap (λ t. a && t) h ∙ and-false a

pub data OneOf (a b : Bool) : Type 0 where
  first : a ≡ true → OneOf a b
  second : b ≡ true → OneOf a b

pub or_cases : (a b : Bool) → a || b ≡ true → OneOf a b
or_cases true b h = first refl
or_cases false b h = second h

pub or_left : (a b : Bool) → a ≡ true → a || b ≡ true
or_left a b h = ap (λ t. t || b) h

pub or_right : (a b : Bool) → b ≡ true → a || b ≡ true
or_right a b h = ap (λ t. a || t) h ∙ or-true a

pub or-false-left : (a b : Bool) → a || b ≡ false → a ≡ false
or-false-left true b h = h
or-false-left false b h = refl

pub or-false-right : (a b : Bool) → a || b ≡ false → b ≡ false
or-false-right true b h = absurd (true≢false h)
or-false-right false b h = h

pub same_test : (a b : Bool) → (a ≡ true → b ≡ true) → (b ≡ true → a ≡ true) → a ≡ b
same_test true b f g = sym (f refl)
same_test false true f g = absurd (false≢true (g refl))
same_test false false f g = refl

pub refuted : (b : Bool) → ¬ (b ≡ true) → false ≡ b
refuted true f = absurd (f refl)
refuted false f = refl

pub compared : {A : Type 0} (m n : ℕ) → (m < n → A) → (m ≡ n → A) → (n < m → A) → A
compared m n below same above = by_cases (dec_lt m n) below (λ a. by_cases (dec_lt n m) above (λ b. same (omega arith)))

pub cond-true : {A : Type 0} (b : Bool) (x y : A) → b ≡ true → cond b x y ≡ x
cond-true b x y h = ap (λ t. cond t x y) h

pub cond-false : {A : Type 0} (b : Bool) (x y : A) → b ≡ false → cond b x y ≡ y
cond-false b x y h = ap (λ t. cond t x y) h

pub cond-lt : {A : Type 0} (m n : ℕ) (x y : A) → m < n → cond (ltb m n) x y ≡ x
cond-lt m n x y l = cond-true (ltb m n) x y (lt-ltb m n l)

pub cond-ge : {A : Type 0} (m n : ℕ) (x y : A) → n ≤ m → cond (ltb m n) x y ≡ y
cond-ge m n x y l = cond-false (ltb m n) x y (le-ltb m n l)

pub cond-eq : {A : Type 0} (m n : ℕ) (x y : A) → m ≡ n → cond (eqb m n) x y ≡ x
cond-eq m n x y q = cond-true (eqb m n) x y (eq-eqb m n q)

pub cond-ne : {A : Type 0} (m n : ℕ) (x y : A) → m ≢ n → cond (eqb m n) x y ≡ y
cond-ne m n x y q = cond-false (eqb m n) x y (ne_eqb m n q)
