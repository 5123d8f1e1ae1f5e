-- Orbits of a map τ of the numbers below N whose p-th iterate is the identity, p prime: the first number whose orbit
-- holds r (its leader), and where r stands in that orbit (its position).
--
--   Orbits                          N, p and τ
--   leader, position                as in the steps
--   leader-below, leader-iter, leader-leader, leader-least, leader-fixed, leader-moved
--   position-below, position-back, position-iter
--   iter-below, iter-mod, iter-moved, moved-distinct      iterates count modulo p, and those of a moved number differ
--   Steps of length a, p not dividing a: paces a r is how many there are from the leader to r
--   paces-below, paces-position, paces-back, paces-next
use mathlib.Core.Path.{◌≡◌, refl, sym, ◌∙◌, ap, subst}
use mathlib.Core.Bool.{true}
use Prim.Native.Nat.{ℕ, zero, suc, ◌+◌, ◌*◌, ◌-◌, ◌%◌, ◌/◌, ◌≤◌, ◌<◌, ◌∣◌}
use native.Mathlib.Nat.{mod-lt, mod-eq_of_lt, mod-add-div', mod-add-mod, add-mul-mod_self_right, mod-eq-zero_of_dvd}
use native.Mathlib.Omega.{arith}
use lib.Dec.{eqb}
use borrow.Author.Tests.{eqb-true, eq-eqb}
use Rattle.definitions.specs.Lists.{any_below, least, iter}
use Rattle.numbers.proofs.Lists.{iter-zero, iter-suc, iter-add, iter-fix, iter-round, iter-period}
use Rattle.numbers.proofs.Searches.{any_below-elim, any_below-intro, least-found, least-least}
use Rattle.numbers.proofs.Prime.{Units}

pub record Orbits : Type 0 where
  pub N : ℕ
  pub p : ℕ
  pub τ : ℕ → ℕ
  pub two : 1 < p
  pub units : Units p
  pub inside : (r : ℕ) → r < N → τ r < N
  pub home : (r : ℕ) → r < N → iter τ p r ≡ r

abbrev pub leader_of : (N p : ℕ) (τ : ℕ → ℕ) → ℕ → ℕ
leader_of N p τ r = least N (λ q. any_below p (λ k. eqb (iter τ k q) r))

abbrev pub position_of : (N p : ℕ) (τ : ℕ → ℕ) → ℕ → ℕ
position_of N p τ r = least p (λ k. eqb (iter τ k (leader_of N p τ r)) r)

module _ (O : Orbits) where
  open O use {N, p, τ, two, inside, home}

  abbrev pub Moved : ℕ → Type 0
  Moved r = ¬ (O.τ r ≡ r)

  unfoldable pub leader : ℕ → ℕ
  leader = leader_of N p τ

  unfoldable pub position : ℕ → ℕ
  position = position_of N p τ

  -- ---- Iterates

  pub iter-below : (k r : ℕ) → r < N → iter τ k r < N
  iter-below zero r h = subst (λ s. s < N) (sym (iter-zero τ r)) h
  iter-below (suc k) r h = subst (λ s. s < N) (sym (iter-suc τ k r)) (iter-below k (τ r) (inside r h))

  pub iter-mod : (k r : ℕ) → r < N → iter τ (k % p) r ≡ iter τ k r
  iter-mod k r h = iter-period τ p r (home r h) k

  -- an iterate that p does not divide and that comes back makes a fixed number
  short-fixed : (k r : ℕ) → r < N → ¬ (p ∣ k) → iter τ k r ≡ r → τ r ≡ r
  short-fixed k r h nd q =
      let (k', s, e) = O.units k nd in
      let e₂ : s * p + 1 ≡ k' * k = omega arith in
      sym (iter-suc τ 0 r ∙ iter-zero τ (τ r)) ∙ ap (iter τ 1) (sym (iter-round τ p r (home r h) s)) ∙ iter-add τ (s * p) 1 r
      ∙ ap (λ m. iter τ m r) e₂ ∙ iter-round τ k r q k'

  not-divides : (k : ℕ) → 0 < k → k < p → ¬ (p ∣ k)
  not-divides k a b d = let z : k ≡ 0 = sym (mod-eq_of_lt b) ∙ mod-eq-zero_of_dvd p d in omega arith

  fixed_back : (b r : ℕ) → r < N → b ≤ p → τ (iter τ b r) ≡ iter τ b r → τ r ≡ r
  fixed_back b r h l q =
      let e : b + (p - b) ≡ p = omega arith in
      let w : iter τ b r ≡ r = sym (iter-fix τ (iter τ b r) q (p - b)) ∙ iter-add τ b (p - b) r ∙ ap (λ m. iter τ m r) e ∙ home r h in
      ap τ (sym w) ∙ q ∙ w

  pub iter-moved : (k r : ℕ) → r < N → Moved r → Moved (iter τ k r)
  iter-moved k r h mv q = let l : k % p < p = mod-lt k (omega (arith, two)) in mv (fixed_back (k % p) r h (omega arith) (subst (λ s. τ s ≡ s) (sym (iter-mod k r h)) q))

  distinct-lt : (r : ℕ) → r < N → Moved r → (b b' : ℕ) → b < b' → b' < p → iter τ b r ≡ iter τ b' r → ⊥
  distinct-lt r h mv b b' l l' q =
      let e : b + (b' - b) ≡ b' = omega arith in
      mv (fixed_back b r h (omega arith) (short-fixed (b' - b) (iter τ b r) (iter-below b r h) (not-divides (b' - b) (omega arith) (omega arith))
      (iter-add τ b (b' - b) r ∙ ap (λ m. iter τ m r) e ∙ sym q)))

  pub moved-distinct : (r : ℕ) → r < N → Moved r → (b b' : ℕ) → b < p → b' < p → iter τ b r ≡ iter τ b' r → b ≡ b'
  moved-distinct r h mv b b' l l' q =
      let x : ¬ (b < b') = λ a. distinct-lt r h mv b b' a l' q in
      let y : ¬ (b' < b) = λ a. distinct-lt r h mv b' b a l (sym q) in omega arith

  -- ---- The leader

  holds : (q r k : ℕ) → q < N → iter τ k q ≡ r → any_below p (λ k. eqb (iter τ k q) r) ≡ true
  holds q r k h e = any_below-intro p (λ k. eqb (iter τ k q) r) (k % p) (mod-lt k (omega (arith, two))) (eq-eqb _ _ (iter-mod k q h ∙ e))

  pub leader-least : (q k : ℕ) → q < N → leader (iter τ k q) ≤ q
  unfolding leader
  leader-least q k h = least-least N (λ s. any_below p (λ l. eqb (iter τ l s) (iter τ k q))) q (holds q (iter τ k q) k h refl)

  leader-found : (r : ℕ) → r < N → (leader r < N) × (any_below p (λ k. eqb (iter τ k (leader r)) r) ≡ true)
  unfolding leader
  leader-found r h = least-found N (λ q. any_below p (λ k. eqb (iter τ k q) r)) r h (holds r r 0 h (iter-zero τ r))

  pub leader-below : (r : ℕ) → r < N → leader r < N
  leader-below r h = (leader-found r h).0

  pub leader-reaches : (r : ℕ) → r < N → (k : ℕ) × (k < p) × (iter τ k (leader r) ≡ r)
  leader-reaches r h = let (k, a, b) = any_below-elim p (λ k. eqb (iter τ k (leader r)) r) (leader-found r h).1 in (k, a, eqb-true _ _ b)

  -- back from an iterate
  iter-back : (k r : ℕ) → r < N → k ≤ p → iter τ (p - k) (iter τ k r) ≡ r
  iter-back k r h l = let e : k + (p - k) ≡ p = omega arith in iter-add τ k (p - k) r ∙ ap (λ m. iter τ m r) e ∙ home r h

  leader-le : (k r : ℕ) → r < N → leader (iter τ k r) ≤ leader r
  leader-le k r h =
      let (l, a, b) = leader-reaches r h in
      subst (λ s. leader s ≤ leader r) (sym (iter-add τ l k (leader r)) ∙ ap (iter τ k) b) (leader-least (leader r) (l + k) (leader-below r h))

  pub leader-iter : (k r : ℕ) → r < N → leader (iter τ k r) ≡ leader r
  leader-iter k r h =
      let m : ℕ = k % p in
      let l : m < p = mod-lt k (omega (arith, two)) in
      let a = leader-le m r h in
      let b = subst (λ s. leader s ≤ leader (iter τ m r)) (iter-back m r h (omega arith)) (leader-le (p - m) (iter τ m r) (iter-below m r h)) in
      let e : leader (iter τ m r) ≡ leader r = omega arith in ap leader (sym (iter-mod k r h)) ∙ e

  pub leader-leader : (r : ℕ) → r < N → leader (leader r) ≡ leader r
  leader-leader r h = let (k, a, b) = leader-reaches r h in sym (leader-iter k (leader r) (leader-below r h)) ∙ ap leader b

  pub leader-fixed : (r : ℕ) → r < N → τ r ≡ r → leader r ≡ r
  leader-fixed r h f =
      let (k, a, b) = leader-reaches r h in
      let g : τ (leader r) ≡ leader r = fixed_back k (leader r) (leader-below r h) (omega arith) (subst (λ s. τ s ≡ s) (sym b) f) in
      sym (iter-fix τ (leader r) g k) ∙ b

  pub leader-moved : (r : ℕ) → r < N → Moved r → Moved (leader r)
  leader-moved r h mv q = let (k, a, b) = leader-reaches r h in mv (subst (λ s. τ s ≡ s) (sym (iter-fix τ (leader r) q k) ∙ b) q)

  -- ---- The position

  position-found : (r : ℕ) → r < N → (position r < p) × (eqb (iter τ (position r) (leader r)) r ≡ true)
  unfolding position leader
  position-found r h = let (k, a, b) = leader-reaches r h in least-found p (λ k. eqb (iter τ k (leader r)) r) k a (eq-eqb _ _ b)

  pub position-below : (r : ℕ) → r < N → position r < p
  position-below r h = (position-found r h).0

  pub position-back : (r : ℕ) → r < N → iter τ (position r) (leader r) ≡ r
  position-back r h = eqb-true _ _ (position-found r h).1

  pub position-is : (r b : ℕ) → r < N → Moved r → b < p → iter τ b (leader r) ≡ r → position r ≡ b
  position-is r b h mv l e = moved-distinct (leader r) (leader-below r h) (leader-moved r h mv) (position r) b (position-below r h) l (position-back r h ∙ sym e)

  pub position-iter : (r k : ℕ) → r < N → Moved r → position (iter τ k r) ≡ (position r + k) % p
  position-iter r k h mv =
      position-is (iter τ k r) ((position r + k) % p) (iter-below k r h) (iter-moved k r h mv) (mod-lt (position r + k) (omega (arith, two)))
      (iter-mod (position r + k) (leader (iter τ k r)) (leader-below (iter τ k r) (iter-below k r h)) ∙ ap (iter τ (position r + k)) (leader-iter k r h)
      ∙ sym (iter-add τ (position r) k (leader r)) ∙ ap (iter τ k) (position-back r h))

  -- ---- Steps of length a

  unfoldable pub paces : ℕ → ℕ → ℕ
  paces a r = least p (λ t. eqb ((a * t) % p) (position r))

  module _ (a : ℕ) (unit : ¬ (p ∣ a)) where
    -- multiplication by a modulo p loses nothing
    pub unit-injective : (m m' : ℕ) → m < p → m' < p → (a * m) % p ≡ (a * m') % p → m ≡ m'
    unit-injective m m' l l' q =
        let (k', s, e) = O.units a unit in
        let back : (m : ℕ) → m < p → m ≡ (k' * ((a * m) % p)) % p = λ m l.
        let w : k' * ((a * m) % p) + k' * ((a * m) / p) * p ≡ m + s * m * p = omega (arith, ap (λ x. k' * x) (mod-add-div' (a * m) p), ap (λ x. x * m) e) in
        sym (mod-eq_of_lt l) ∙ sym (add-mul-mod_self_right m (s * m) p) ∙ ap (λ x. x % p) (sym w)
        ∙ add-mul-mod_self_right (k' * ((a * m) % p)) (k' * ((a * m) / p)) p in
        back m l ∙ ap (λ x. (k' * x) % p) q ∙ sym (back m' l')

    -- every remainder is a multiple of a
    pub unit-onto : (b : ℕ) → b < p → (t : ℕ) × (t < p) × ((a * t) % p ≡ b)
    unit-onto b l =
        let (k', s, e) = O.units a unit in
        let q : a * (k' * b) ≡ b + (s * b) * p = omega (arith, ap (λ x. x * b) e) in
        let w : a * ((k' * b) % p) + a * ((k' * b) / p) * p ≡ a * (k' * b) = omega (arith, ap (λ x. a * x) (mod-add-div' (k' * b) p)) in (
          (k' * b) % p,
          mod-lt _ (omega (arith, two)),
          sym (add-mul-mod_self_right (a * ((k' * b) % p)) (a * ((k' * b) / p)) p) ∙ ap (λ x. x % p) (w ∙ q) ∙ add-mul-mod_self_right b (s * b) p ∙ mod-eq_of_lt l,
        )

    paces-found : (r : ℕ) → r < N → (paces a r < p) × (eqb ((a * paces a r) % p) (position r) ≡ true)
    unfolding paces
    paces-found r h = let (t, l, e) = unit-onto (position r) (position-below r h) in least-found p (λ t. eqb ((a * t) % p) (position r)) t l (eq-eqb _ _ e)

    pub paces-below : (r : ℕ) → r < N → paces a r < p
    paces-below r h = (paces-found r h).0

    pub paces-position : (r : ℕ) → r < N → (a * paces a r) % p ≡ position r
    paces-position r h = eqb-true _ _ (paces-found r h).1

    pub paces-back : (r : ℕ) → r < N → iter τ (a * paces a r) (leader r) ≡ r
    paces-back r h = sym (iter-mod (a * paces a r) (leader r) (leader-below r h)) ∙ ap (λ k. iter τ k (leader r)) (paces-position r h) ∙ position-back r h

    pub paces-next : (r : ℕ) → r < N → Moved r → paces a (iter τ a r) ≡ (paces a r + 1) % p
    paces-next r h mv =
        let t : ℕ = (paces a r + 1) % p in
        let w : a * t + a * ((paces a r + 1) / p) * p ≡ a * paces a r + a = omega (arith, ap (λ x. a * x) (mod-add-div' (paces a r + 1) p)) in
        unit-injective (paces a (iter τ a r)) t (paces-below (iter τ a r) (iter-below a r h)) (mod-lt _ (omega (arith, two)))
        (paces-position (iter τ a r) (iter-below a r h) ∙ position-iter r a h mv ∙ ap (λ x. (x + a) % p) (sym (paces-position r h)) ∙ mod-add-mod (a * paces a r) p a
        ∙ ap (λ x. x % p) (sym w) ∙ add-mul-mod_self_right (a * t) (a * ((paces a r + 1) / p)) p)
