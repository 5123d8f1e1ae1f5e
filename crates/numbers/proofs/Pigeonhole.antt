-- Maps of the numbers below a to those below b that lose nothing.
--
--   Injects a b f       f takes numbers below a to different numbers below b
--   injects-le          then a is at most b
--   injects-onto        and if a is b, every number below b is hit
--   onto-injects        a map of the numbers below a that hits every one of them takes no two to one
--   injects-returns     a number that does not come again in fewer than a turns of such a map does after a
use mathlib.Core.Path.{◌≡◌, sym, ◌∙◌, ap, subst}
use mathlib.Core.Logic.{by_cases}
use Prim.Native.Nat.{ℕ, zero, suc, ◌+◌, ◌-◌, ◌≤◌, ◌<◌}
use native.Mathlib.Nat.{zero-add, suc-add}
use native.Mathlib.Omega.{arith}
use native.Mathlib.Decide.{dec_lt, ℕ_discrete}
use mathlib.Core.Bool.{cond}
use lib.Dec.{eqb}
use borrow.Author.Tests.{eq-eqb, eqb-true}
use Rattle.definitions.specs.Lists.{least, iter}
use Rattle.numbers.proofs.Bools.{cond-eq, cond-ne}
use Rattle.numbers.proofs.Lists.{iter-zero}
use Rattle.numbers.proofs.Iterates.{iter-out}
use Rattle.numbers.proofs.Searches.{least-found}

pub record Injects (a b : ℕ) (f : ℕ → ℕ) : Type 0 where
  pub below : (k : ℕ) → k < a → f k < b
  pub injective : (j k : ℕ) → j < a → k < a → f j ≡ f k → j ≡ k

-- no two numbers, in their order, go to one
apart-injects : {a b : ℕ} {f : ℕ → ℕ} → ((k : ℕ) → k < a → f k < b) → ((j k : ℕ) → j < k → k < a → ¬ (f j ≡ f k)) → Injects a b f
apart-injects {a} {b} {f} below apart =
    record { below = below; injective = λ j k s t e. let x : ¬ (j < k) = λ l. apart j k l t e in let y : ¬ (k < j) = λ l. apart k j l s (sym e) in omega arith }

-- the map with its last value moved to where it was b
patched : (a b : ℕ) (f : ℕ → ℕ) → ℕ → ℕ
patched a b f k = cond (eqb (f k) b) (f a) (f k)

patch : (a b : ℕ) (f : ℕ → ℕ) → Injects (suc a) (suc b) f → Injects a b (patched a b f)
unfolding patched
patch a b f F = apart-injects (λ k l. below k l (ℕ_discrete (f k) b)) (λ j k l s. apart j k l s (ℕ_discrete (f j) b) (ℕ_discrete (f k) b))
  where
    below : (k : ℕ) → k < a → Dec (f k ≡ b) → patched a b f k < b
    below k l (yes e) =
        let ne : ¬ (f a ≡ b) = λ q. omega (arith, F.injective k a (omega arith) (omega arith) (e ∙ sym q)) in
        subst (λ z. z < b) (sym (cond-eq (f k) b _ _ e)) (omega (arith, F.below a (omega arith)))
    below k l (no e) = subst (λ z. z < b) (sym (cond-ne (f k) b _ _ e)) (omega (arith, F.below k (omega arith)))

    apart : (j k : ℕ) → j < k → k < a → Dec (f j ≡ b) → Dec (f k ≡ b) → ¬ (patched a b f j ≡ patched a b f k)
    apart j k l s (yes p) (yes q) e = omega (arith, F.injective j k (omega arith) (omega arith) (p ∙ sym q))
    apart j k l s (yes p) (no q) e = omega (arith, F.injective a k (omega arith) (omega arith) (sym (cond-eq (f j) b _ _ p) ∙ e ∙ cond-ne (f k) b _ _ q))
    apart j k l s (no p) (yes q) e = omega (arith, F.injective j a (omega arith) (omega arith) (sym (cond-ne (f j) b _ _ p) ∙ e ∙ cond-eq (f k) b _ _ q))
    apart j k l s (no p) (no q) e = omega (arith, F.injective j k (omega arith) (omega arith) (sym (cond-ne (f j) b _ _ p) ∙ e ∙ cond-ne (f k) b _ _ q))

pub injects-le : (a b : ℕ) (f : ℕ → ℕ) → Injects a b f → a ≤ b
injects-le zero b f F = omega arith
injects-le (suc a) zero f F = let z = F.below a (omega arith) in absurd (omega arith)
injects-le (suc a) (suc b) f F = let r = injects-le a b (patched a b f) (patch a b f F) in omega arith

-- is b hit below a?
hit : (f : ℕ → ℕ) (b a : ℕ) → Dec ((k : ℕ) × (k < a) × (f k ≡ b))
hit f b zero = no (λ (k, l, q). omega arith)
hit f b (suc a) = by_cases (hit f b a) (λ (k, l, q). yes (k, omega arith, q)) (λ h. by_cases (ℕ_discrete (f a) b) (λ q. yes (a, omega arith, q))
    (λ q. no (λ (k, l, e). by_cases (dec_lt k a) (λ s. h (k, s, e)) (λ s. let z : a ≡ k = omega arith in q (ap f z ∙ e)))))

pub injects-onto : (a : ℕ) (f : ℕ → ℕ) → Injects a a f → (b : ℕ) → b < a → (k : ℕ) × (k < a) × (f k ≡ b)
injects-onto a f F b l = by_cases (hit f b a) (λ h. h) (λ h. absurd (omega (arith, injects-le (suc a) a more (injects h))))
  where
    -- if b is not hit, a + 1 numbers go to a different ones: b is sent to itself
    more : ℕ → ℕ
    more k = cond (eqb k a) b (f k)

    injects : ¬ ((k : ℕ) × (k < a) × (f k ≡ b)) → Injects (suc a) a more
    injects h = apart-injects
        (λ k s. by_cases (ℕ_discrete k a) (λ e. subst (λ z. z < a) (sym (cond-eq k a _ _ e)) l)
        (λ e. subst (λ z. z < a) (sym (cond-ne k a _ _ e)) (F.below k (omega arith))))
        (λ j k m s e. let here : more j ≡ f j = cond-ne j a _ _ (λ p. omega arith) in by_cases (ℕ_discrete k a)
        (λ q. h (j, omega arith, sym here ∙ e ∙ cond-eq k a _ _ q))
        (λ q. omega (arith, F.injective j k (omega arith) (omega arith) (sym here ∙ e ∙ cond-ne k a _ _ q))))

pub onto-injects : (a : ℕ) (f : ℕ → ℕ) → ((b : ℕ) → b < a → (k : ℕ) × (k < a) × (f k ≡ b)) → (j k : ℕ) → j < a → k < a → f j ≡ f k → j ≡ k
onto-injects a f onto j k s t e =
    let (b, l, p) = injects-onto a back injects j s in
    let (c, m, q) = injects-onto a back injects k t in
    let x : b ≡ c = sym (back-goes b l).1 ∙ ap f p ∙ e ∙ ap f (sym q) ∙ (back-goes c m).1 in sym p ∙ ap back x ∙ q
  where
    -- the first number that goes to b
    back : ℕ → ℕ
    back b = least a (λ k. eqb (f k) b)

    back-goes : (b : ℕ) → b < a → (back b < a) × (f (back b) ≡ b)
    back-goes b l = let (k, s, q) = onto b l in let (x, y) = least-found a (λ k. eqb (f k) b) k s (eq-eqb _ _ q) in (x, eqb-true _ _ y)

    injects : Injects a a back
    injects = record { below = λ b l. (back-goes b l).0; injective = λ b c l m q. sym (back-goes b l).1 ∙ ap f q ∙ (back-goes c m).1 }

-- ---- Turns

module _ (a : ℕ) (f : ℕ → ℕ) (F : Injects a a f) (r : ℕ) (h : r < a) where
  turned-below : (k : ℕ) → iter f k r < a
  turned-below zero = subst (λ z. z < a) (sym (iter-zero f r)) h
  turned-below (suc k) = subst (λ z. z < a) (sym (iter-out f k r)) (F.below _ (turned-below k))

  -- what comes again after turns came again before them
  again : (j k : ℕ) → iter f (j + k) r ≡ iter f j r → iter f k r ≡ r
  again zero k e = ap (λ n. iter f n r) (sym (zero-add k)) ∙ e ∙ iter-zero f r
  again (suc j) k e = again j k (F.injective _ _ (turned-below (j + k)) (turned-below j)
      (sym (iter-out f (j + k) r) ∙ ap (λ n. iter f n r) (sym (suc-add j k)) ∙ e ∙ iter-out f j r))

  pub injects-returns : ((k : ℕ) → 0 < k → k < a → ¬ (iter f k r ≡ r)) → iter f a r ≡ r
  injects-returns none = by_cases (ℕ_discrete (iter f a r) r) (λ e. e)
      (λ n. absurd (omega (arith, injects-le (suc a) a (λ k. iter f k r) (apart-injects (λ k l. turned-below k) (apart n)))))
    where
      -- if the last turn does not lead back, no two of the turns up to it lead to one number
      apart : ¬ (iter f a r ≡ r) → (j k : ℕ) → j < k → k < suc a → ¬ (iter f j r ≡ iter f k r)
      apart n j k l b e =
          let z : j + (k - j) ≡ k = omega arith in
          let q : iter f (k - j) r ≡ r = again j (k - j) (ap (λ n. iter f n r) z ∙ sym e) in
          by_cases (dec_lt (k - j) a) (λ c. none (k - j) (omega arith) c q) (λ c. let w : a ≡ k - j = omega arith in n (ap (λ k. iter f k r) w ∙ q))
