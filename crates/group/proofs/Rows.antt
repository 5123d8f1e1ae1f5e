-- Rows of exponents, the lowest generator first, and the normal forms that they say.
--
--   to_nf-suc                       the clause of to_nf
--   to_nf-set-high, to_nf-set-top    a store at or above the level; a store at its top
--   to_nf-ext, to_nf-get             rows that agree below i say one form, and the other way round
--   to_nf-valid, valid-get          the form is valid exactly if each exponent is below its prime
--   to_nf-trivial                   a row of zeros
use mathlib.Core.Path.{◌≡◌, refl, ◌∙◌, ap, ap₂}
use mathlib.Core.List.{List}
use Prim.Native.Nat.{ℕ, zero, suc, ◌≤◌, ◌<◌}
use native.Mathlib.Omega.{arith}
use lib.ListN.{length, get_or, set}
use lib.Seq.{get_or-set_same, get_or-set_other}
use Rattle.definitions.specs.Presentation.{to_nf, trivial, Presentation, Valid}
use Rattle.numbers.proofs.Lists.{below_suc}

pub to_nf-suc : (i : ℕ) (r : List ℕ) → to_nf (suc i) r ≡ (get_or r i 0, to_nf i r)
unfolding to_nf
to_nf-suc i r = refl

pub to_nf-ext : (i : ℕ) (r q : List ℕ) → ((k : ℕ) → k < i → get_or r k 0 ≡ get_or q k 0) → to_nf i r ≡ to_nf i q
unfolding to_nf
to_nf-ext zero r q h = refl
to_nf-ext (suc i) r q h = ap₂ (λ s t. (s, t)) (h i (omega arith)) (to_nf-ext i r q (λ k l. h k (omega arith)))

pub to_nf-get : (i : ℕ) (r q : List ℕ) → to_nf i r ≡ to_nf i q → (k : ℕ) → k < i → get_or r k 0 ≡ get_or q k 0
unfolding to_nf
to_nf-get zero r q e k l = absurd (omega arith)
to_nf-get (suc i) r q e k l = below_suc i (λ k. get_or r k 0 ≡ get_or q k 0) (to_nf-get i r q (ap (λ s. s.1) e)) (ap (λ s. s.0) e) k l

pub to_nf-set-high : (i j : ℕ) (r : List ℕ) (a : ℕ) → i ≤ j → to_nf i (set r j a) ≡ to_nf i r
to_nf-set-high i j r a l = to_nf-ext i (set r j a) r (λ k h. get_or-set_other r j k a 0 (omega arith))

pub to_nf-set-top : (i : ℕ) (r : List ℕ) (a : ℕ) → i < length r → to_nf (suc i) (set r i a) ≡ (a, to_nf i r)
to_nf-set-top i r a l = to_nf-suc i (set r i a) ∙ ap₂ (λ s t. (s, t)) (get_or-set_same r i a 0 l) (to_nf-set-high i i r a (omega arith))

pub to_nf-trivial : (i : ℕ) (r : List ℕ) → ((k : ℕ) → k < i → get_or r k 0 ≡ 0) → to_nf i r ≡ trivial i
unfolding to_nf trivial
to_nf-trivial zero r h = refl
to_nf-trivial (suc i) r h = ap₂ (λ s t. (s, t)) (h i (omega arith)) (to_nf-trivial i r (λ k l. h k (omega arith)))

pub to_nf-valid : (P : Presentation) (i : ℕ) (r : List ℕ) → ((k : ℕ) → k < i → get_or r k 0 < P.p k) → Valid P i (to_nf i r)
unfolding to_nf
to_nf-valid P zero r h = tt
to_nf-valid P (suc i) r h = (h i (omega arith), to_nf-valid P i r (λ k l. h k (omega arith)))

pub valid-get : (P : Presentation) (i : ℕ) (r : List ℕ) → Valid P i (to_nf i r) → (k : ℕ) → k < i → get_or r k 0 < P.p k
unfolding to_nf
valid-get P zero r h k l = absurd (omega arith)
valid-get P (suc i) r h k l = below_suc i (λ k. get_or r k 0 < P.p k) (valid-get P i r h.1) h.0 k l
