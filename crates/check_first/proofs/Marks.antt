-- Exponents by marks.
--
--   Marking                multiples that are freed, one after the other
--   marked-first           the first numbers, freed at once
--   allowed-own, takes-as  the same by another name
--   SlotsTaken                 the exponents of the first r representations are taken, and differ
--   taking-none, taking-more     at the start, and one representation more
--   product-positive, multiple-small, multiple-power     a factor is positive; a multiple is below the modulus, and p times it is 0
use mathlib.Core.Path.{◌≡◌, refl, sym, ◌∙◌, ap, ap₂, subst}
use mathlib.Core.Logic.{by_cases}
use mathlib.Core.Bool.{Bool, true, false, false≢true}
use mathlib.Core.List.{List, ◌++◌}
use Prim.Native.Nat.{ℕ, zero, suc, ◌+◌, ◌-◌, ◌*◌, ◌%◌, ◌≤◌, ◌<◌}
use native.Mathlib.Nat.{mul-lt-mul_of_pos_right, mul-mod_right}
use native.Mathlib.Decide.{dec_lt, ℕ_discrete}
use native.Mathlib.Omega.{arith}
use lib.ListN.{length, get_or, take, drop, replicate, length-replicate}
use Rattle.std.proofs.Common.{length-append}
use Rattle.std.proofs.lemmas.List.{take-replicate, drop-replicate}
use Rattle.check_first.specs.First.{exponent_of, Allowed, Takes}

-- nothing is free in a list without marks
none : (n k : ℕ) → get_or (replicate n false) k false ≡ false
none zero k = refl
none (suc n) zero = refl
none (suc n) (suc k) = none n k

-- only numbers below p are free where the first p are
freed : (p m e : ℕ) → get_or (replicate p true ++ replicate m false) e false ≡ true → e < p
freed zero m e h = absurd (false≢true (sym (none m e) ∙ h))
freed (suc p) m zero h = omega arith
freed (suc p) m (suc e) h = let l = freed p m e h in omega (arith, l)

pub marked-first : {n p part : ℕ} {M N : List Bool} → p * part ≤ n → part ≡ 1 → M ≡ replicate n false → N ≡ replicate (length (take p M)) true
    → Allowed n p part (N ++ drop p M)
marked-first {n} {p} {part} {M} {N} l one m n' =
    let room : p ≤ n = omega (arith, ap (λ k. p * k) one) in
    let many : length (take p M) ≡ p = ap length (ap (take p) m ∙ take-replicate p n false room) ∙ length-replicate {A = Bool} p false in
    let all : N ++ drop p M ≡ replicate p true ++ replicate (n - p) false =
    ap₂ (◌++◌) (n' ∙ ap (λ k. replicate k true) many) (ap (drop p) m ∙ drop-replicate p n false) in
    subst (Allowed n p part) (sym all) (record {
      size = length-append (replicate p true) _ ∙ omega (arith, length-replicate {A = Bool} p true, length-replicate {A = Bool} (n - p) false);
      only = λ e h. (e, freed p (n - p) e h, omega (arith, ap (λ k. e * k) one));
    })

-- the first k multiples of part are free, as far as number e
pub record Marking (s p part e : ℕ) (M : List Bool) : Type 0 where
  pub met : ℕ
  pub within : met ≤ p
  pub there : e ≡ met * part
  pub allowed : Allowed s met part M

pub allowed-own : {k p part : ℕ} {M : List Bool} → Allowed k p part M → Allowed (length M) p part M
allowed-own A = record { size = refl; only = A.only }

pub takes-as : {e e' : ℕ} {M N : List Bool} → e ≡ e' → Takes e M N → Takes e' M N
takes-as {e} {e'} {M} {N} q t = subst (λ e. Takes e M N) q t

-- ---- Multiples

pub product-positive : (p part m : ℕ) → p * part ≡ m → 0 < m → 0 < part
product-positive p zero m e l = absurd (omega (arith, e))
product-positive p (suc k) m e l = omega arith

pub multiple-small : (p part m k : ℕ) → p * part ≡ m → 0 < part → k < p → k * part < m
multiple-small p part m k e pos l = let q : k * part < p * part = mul-lt-mul_of_pos_right l pos in omega (arith, q, e)

pub multiple-power : (p part m k : ℕ) → p * part ≡ m → (p * (k * part)) % m ≡ 0
multiple-power p part m k e =
    let q : p * (k * part) ≡ m * k = omega (arith, ap (λ x. x * k) e) in
    ap (λ x. x % m) q ∙ mul-mod_right m k

-- ---- The exponents of representations

pub record SlotsTaken (s n : ℕ) (T : List ℕ) (p part r : ℕ) (M : List Bool) : Type 0 where
  pub allowed : Allowed s p part M
  pub taken : (q : ℕ) → q < r → get_or M (exponent_of n T q) false ≡ false
  pub multiple : (q : ℕ) → q < r → (k : ℕ) × (k < p) × (exponent_of n T q ≡ k * part)
  pub apart : (q q' : ℕ) → q < r → q' < r → ¬ (q ≡ q') → ¬ (exponent_of n T q ≡ exponent_of n T q')

pub taking-none : {s n : ℕ} {T : List ℕ} {p part : ℕ} {M : List Bool} → Allowed s p part M → SlotsTaken s n T p part 0 M
taking-none A = record {
  allowed = A;
  taken = λ q l. absurd (omega arith);
  multiple = λ q l. absurd (omega arith);
  apart = λ q q' l. absurd (omega arith);
}

module _ {s n : ℕ} {T : List ℕ} {p part r : ℕ} {M N : List Bool} (H : SlotsTaken s n T p part r M) (t : Takes (exponent_of n T r) M N) where
  abbrev e : ℕ
  e = exponent_of n T r

  stays : (f : ℕ) → get_or M f false ≡ false → get_or N f false ≡ false
  stays f z = by_cases (ℕ_discrete f e) (λ q. ap (λ f. get_or N f false) q ∙ t.taken) (λ q. t.others f q ∙ z)

  was-free : (f : ℕ) → get_or N f false ≡ true → get_or M f false ≡ true
  was-free f z = by_cases (ℕ_discrete f e)
      (λ q. absurd (false≢true (sym t.taken ∙ ap (λ f. get_or N f false) (sym q) ∙ z)))
      (λ q. sym (t.others f q) ∙ z)

  differs : (q : ℕ) → q < r → ¬ (exponent_of n T q ≡ e)
  differs q l z = false≢true (sym (H.taken q l) ∙ ap (λ f. get_or M f false) z ∙ t.free)

  here : (k : ℕ) × (k < p) × (exponent_of n T r ≡ k * part)
  here = H.allowed.only e t.free

  pub taking-more : SlotsTaken s n T p part (r + 1) N
  taking-more = record {
    allowed = record { size = t.size ∙ H.allowed.size; only = λ f n. H.allowed.only f (was-free f n) };
    taken = λ q l. gone q l (dec_lt q r);
    multiple = λ q l. some q l (dec_lt q r);
    apart = λ q q' l l' n. other q q' l l' n (dec_lt q r) (dec_lt q' r);
  }
    where
      gone : (q : ℕ) → q < r + 1 → Dec (q < r) → get_or N (exponent_of n T q) false ≡ false
      gone q l (yes h) = stays (exponent_of n T q) (H.taken q h)
      gone q l (no h) = let z : r ≡ q = omega arith in subst (λ q. get_or N (exponent_of n T q) false ≡ false) z t.taken

      some : (q : ℕ) → q < r + 1 → Dec (q < r) → (k : ℕ) × (k < p) × (exponent_of n T q ≡ k * part)
      some q l (yes h) = H.multiple q h
      some q l (no h) = let z : r ≡ q = omega arith in subst (λ q. (k : ℕ) × (k < p) × (exponent_of n T q ≡ k * part)) z here

      other : (q q' : ℕ) → q < r + 1 → q' < r + 1 → ¬ (q ≡ q') → Dec (q < r) → Dec (q' < r) → ¬ (exponent_of n T q ≡ exponent_of n T q')
      other q q' l l' ne (yes h) (yes h') = H.apart q q' h h' ne
      other q q' l l' ne (yes h) (no h') = let z : r ≡ q' = omega arith in λ x. differs q h (x ∙ ap (exponent_of n T) (sym z))
      other q q' l l' ne (no h) (yes h') = let z : r ≡ q = omega arith in λ x. differs q' h' (sym x ∙ ap (exponent_of n T) (sym z))
      other q q' l l' ne (no h) (no h') = λ x. ne (omega arith)
