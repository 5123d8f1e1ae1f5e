-- The blocks of a level that fits, and how generator i moves them.
--
--   search                        a bounded search for a number with a property
--   Fitted                        a rung, and a level that fits on it
--   Up, up-path                   a representation of that level
--   fit, count, width, part       what is said of it: how many blocks, how wide, and to which representation each refers
--   to, turn                      the block to which a generator from i on takes a block; generator i
--   turn-part, part-iter          generator i takes blocks where their references are taken
--   one-fixed, moved-part         the reference of one block is fixed, those of several are moved
--   part-one                      the references of one representation differ
--   reach                         every block is reached from every other
use mathlib.Core.Path.{◌≡◌, sym, ◌∙◌, ap, subst}
use mathlib.Core.HLevel.{Σ_prop_path}
use mathlib.Core.Logic.{◌⊎◌, inl, inr, by_cases}
use Prim.Native.Nat.{ℕ, zero, suc, ◌≤◌, ◌<◌}
use native.Mathlib.Bridge.{le_prop}
use native.Mathlib.Omega.{arith}
use native.Mathlib.Decide.{dec_lt, ℕ_discrete}
use lib.ListN.{length}
use Rattle.definitions.specs.Lists.{iter}
use Rattle.definitions.specs.Monomial.{Level, rep_of}
use Rattle.numbers.proofs.Lists.{iter-zero}
use Rattle.numbers.proofs.Iterates.{iter-out}
use Rattle.numbers.proofs.Pigeonhole.{injects-onto}
use Rattle.numbers.proofs.Orbits.{moved-distinct, iter-moved}
use Rattle.clifford.specs.Stands.{Rung}
use Rattle.clifford.proofs.Numbering.{P, p, N, τ, O}
use Rattle.fitting.specs.Fits.{block_to, Fitting, Fits}

-- a number below n of which Q holds, or none
pub search : (n : ℕ) (Q : (k : ℕ) → k < n → Type 0) → ((k : ℕ) (l : k < n) → Dec (Q k l)) → Dec ((k : ℕ) × (l : k < n) × Q k l)
search zero Q d = no (λ q. omega (arith, q.1))
search (suc n) Q d = go (search n (λ k l. Q k (omega arith)) (λ k l. d k (omega arith))) (d n (omega arith))
  where
    go : Dec ((k : ℕ) × (l : k < n) × Q k (omega arith)) → Dec (Q n (omega arith)) → Dec ((k : ℕ) × (l : k < suc n) × Q k l)
    go (yes (k, l, q)) e = yes (k, omega arith, q)
    go (no a) (yes q) = yes (n, omega arith, q)
    go (no a) (no b) = no (λ (k, l, q). split k l q (dec_lt k n))
      where
        split : (k : ℕ) (l : k < suc n) → Q k l → Dec (k < n) → ⊥
        split k l q (yes h) = a (k, h, subst (Q k) (le_prop l _) q)
        split k l q (no h) =
            let e : k ≡ n = omega arith in
            b (subst (λ (z : (k : ℕ) × (k < suc n)). Q z.0 z.1) (Σ_prop_path (λ z. le_prop) e) q)

-- a rung, and above it a level that fits
pub record Fitted : Type 1 where
  pub R : Rung
  pub High : Level
  -- the matrices are as long as the degrees say
  pub size : (r g : ℕ) → r < length High → g < R.T.n → length ((rep_of High r).matrix g) ≡ (rep_of High r).deg
  pub fits : Fits R.T.context.P R.T.n R.m R.i R.L High

module _ (W : Fitted) where
  open W use {R, High, fits}
  open W.R use {T, m, i, L}

  -- ---- A representation of the level

  -- its number, and that it is listed
  abbrev pub Up : Type 0
  Up = (r : ℕ) × (r < length W.High)

  pub up-path : (u v : Up) → u.0 ≡ v.0 → u ≡ v
  up-path u v e = Σ_prop_path (λ z. le_prop) e

  abbrev pub fit : (u : Up) → Fitting (P W.R) W.R.T.n W.R.m W.R.i W.R.L W.High u.0
  fit u = fits.fit u.0 u.1

  -- so many blocks, so wide, and the reference of each
  abbrev pub count : Up → ℕ
  count u = (fit u).cut.count

  abbrev pub width : Up → ℕ
  width u = (fit u).cut.width

  abbrev pub part : Up → ℕ → ℕ
  part u = (fit u).cut.part

  -- the block to which generator g takes block k
  unfoldable pub to : Up → (g k : ℕ) → ℕ
  to u g k = block_to (P R) T.n m i L High u.0 (fit u).cut g k

  abbrev pub turn : Up → ℕ → ℕ
  turn u = to u W.R.i

  pub part_below : (u : Up) (k : ℕ) → k < count u → part u k < N W.R
  part_below u k l = (fit u).cut.part_below k l

  pub to_below : (u : Up) (g k : ℕ) → W.R.i ≤ g → g < W.R.T.n → k < count u → to u g k < count u
  unfolding to
  to_below u g k ig gn l = (fit u).lands g k ig gn l

  -- ---- Generator i

  pub turn_below : (u : Up) (k : ℕ) → k < count u → turn u k < count u
  turn_below u k l = to_below u i k (omega arith) R.in_range l

  pub turn-part : (u : Up) (k : ℕ) → k < count u → part u (turn u k) ≡ τ W.R (part u k)
  unfolding to
  turn-part u k l = (fit u).follows k l ∙ sym (R.literal i (part u k))

  pub turns-below : (u : Up) (k l : ℕ) → k < count u → iter (turn u) l k < count u
  turns-below u k zero h = subst (λ z. z < count u) (sym (iter-zero (turn u) k)) h
  turns-below u k (suc l) h = subst (λ z. z < count u) (sym (iter-out (turn u) l k)) (turn_below u (iter (turn u) l k) (turns-below u k l h))

  pub part-iter : (u : Up) (k l : ℕ) → k < count u → part u (iter (turn u) l k) ≡ iter (τ W.R) l (part u k)
  part-iter u k zero h = ap (part u) (iter-zero (turn u) k) ∙ sym (iter-zero (τ R) (part u k))
  part-iter u k (suc l) h =
      ap (part u) (iter-out (turn u) l k) ∙ turn-part u (iter (turn u) l k) (turns-below u k l h)
      ∙ ap (τ R) (part-iter u k l h) ∙ sym (iter-out (τ R) l (part u k))

  -- ---- One block, or p

  pub one-zero : (u : Up) (k : ℕ) → count u ≡ 1 → k < count u → k ≡ 0
  one-zero u k e l = omega arith

  pub one-fixed : (u : Up) (k : ℕ) → count u ≡ 1 → k < count u → τ W.R (part u k) ≡ part u k
  one-fixed u k e l = let z : turn u k ≡ k = omega (arith, turn_below u k l) in sym (turn-part u k l) ∙ ap (part u) z

  module _ (u : Up) (ne : ¬ (count u ≡ 1)) where
    count-p : count u ≡ p R
    count-p = go (fit u).one_or_p
      where
        go : (count u ≡ 1) ⊎ (count u ≡ p R) → count u ≡ p R
        go (inl e) = absurd (ne e)
        go (inr e) = e

    several : 0 < count u
    several = omega (arith, count-p, T.context.two i)

    zero-moved : ¬ (τ R (part u 0) ≡ part u 0)
    zero-moved e = (fit u).moved ne (sym (R.literal i (part u 0)) ∙ e)

    -- every block is met on the way from a block whose reference is moved
    from : (k : ℕ) → k < count u → ¬ (τ R (part u k) ≡ part u k) → (b : ℕ) → b < count u → (l : ℕ) × (l < p R) × (iter (turn u) l k ≡ b)
    from k h mv b l = injects-onto (p R) (λ l. iter (turn u) l k) (record {
      below = λ l a. subst (λ z. iter (turn u) l k < z) count-p (turns-below u k l h);
      injective = λ a b la lb e. moved-distinct (O R) (part u k) (part_below u k h) mv a b la lb
          (sym (part-iter u k a h) ∙ ap (part u) e ∙ part-iter u k b h);
    }) b (subst (λ z. b < z) count-p l)

    pub moved-part : (k : ℕ) → k < count u → ¬ (τ W.R (part u k) ≡ part u k)
    moved-part k h f =
        let (l, a, e) = from 0 several zero-moved k h in
        iter-moved (O R) l (part u 0) (part_below u 0 several) zero-moved (subst (λ z. τ R z ≡ z) (ap (part u) (sym e) ∙ part-iter u 0 l several) f)

    moved-reach : (k b : ℕ) → k < count u → b < count u → (l : ℕ) × (iter (turn u) l k ≡ b)
    moved-reach k b h h' = let (l, a, e) = from k h (moved-part k h) b h' in (l, e)

    -- blocks of one reference are met at one step of the way from block 0
    moved-one : (k k' : ℕ) → k < count u → k' < count u → part u k ≡ part u k' → k ≡ k'
    moved-one k k' h h' e =
        let (l, a, s) = from 0 several zero-moved k h in
        let (l', a', s') = from 0 several zero-moved k' h' in
        let same : l ≡ l' = moved-distinct (O R) (part u 0) (part_below u 0 several) zero-moved l l' a a'
        (sym (part-iter u 0 l several) ∙ ap (part u) s ∙ e ∙ ap (part u) (sym s') ∙ part-iter u 0 l' several) in
        sym s ∙ ap (λ l. iter (turn u) l 0) same ∙ s'

  pub part-one : (u : Up) (k k' : ℕ) → k < count u → k' < count u → part u k ≡ part u k' → k ≡ k'
  part-one u k k' h h' e = by_cases (ℕ_discrete (count u) 1) (λ o. omega arith) (λ o. moved-one u o k k' h h' e)

  pub reach : (u : Up) (k b : ℕ) → k < count u → b < count u → (l : ℕ) × (iter (turn u) l k ≡ b)
  reach u k b h h' = by_cases (ℕ_discrete (count u) 1) (λ e. (0, iter-zero (turn u) k ∙ omega arith)) (λ e. moved-reach u e k b h h')
