-- The squared degrees of the next level add up to p times those of the level below.
--
--   sum-orbits           over the numbers below N, p for each leader of an orbit that moves is one for each member
--   next-squares         the squares of the next level
use mathlib.Core.Path.{◌≡◌, refl, sym, ◌∙◌, ap, ap₂}
use mathlib.Core.Logic.{by_cases}
use mathlib.Core.Bool.{cond}
use Prim.Native.Nat.{ℕ, suc, ◌+◌, ◌*◌, ◌-◌, ◌%◌, ◌<◌}
use native.Mathlib.Nat.{zero-mul, mod-lt}
use native.Mathlib.Omega.{arith}
use native.Mathlib.Decide.{ℕ_discrete}
use lib.ListN.{length}
use Rattle.definitions.specs.Lists.{sum, iter}
use Rattle.definitions.specs.Presentation.{order}
use Rattle.definitions.specs.Monomial.{Rep, rep_of}
use Rattle.definitions.specs.Steps
use Rattle.numbers.proofs.Lists.{iter-add, iter-fix}
use Rattle.numbers.proofs.Sums.{sum-zero, sum-suc, sum_below, sum-plus, sum-mul, sum-const, sum-swap, sum-single, sum-stretches, chosen, chosen-same}
use Rattle.numbers.proofs.Sums.{chosen-other, sum-permuted}
use Rattle.numbers.proofs.Orbits.{Orbits, Moved, leader, position, iter-below, iter-mod, iter-moved, moved-distinct, leader-iter}
use Rattle.clifford.specs.Stands.{Rung}
use Rattle.clifford.proofs.Numbering.{leader-ahead, P, p, N, deg, τ, O, fixed-yes, fixed_no, made, next, next-length}
use Rattle.clifford.proofs.Numbering.{made-fixed, made-leader, made_other, given-fixed, given-moved, degree-iter}

-- ---- Orbits

module _ (O : Orbits) (v : ℕ → ℕ) (along : (k r : ℕ) → r < O.N → v (iter O.τ k r) ≡ v r) (still : (r : ℕ) → r < O.N → ¬ Moved O r → v r ≡ 0) where
  open O use {N, p, τ, two, home}

  abbrev χ : ℕ → ℕ
  χ r = chosen (leader O r) r

  -- a moved number comes to its leader just once
  once : (r : ℕ) → r < N → Moved O r → sum p (λ b. χ (iter τ b r)) ≡ 1
  once r h mv =
      let b : ℕ = position O r in
      let k : ℕ = (p - b) % p in
      let kl : k < p = mod-lt (p - b) (omega (arith, two)) in
      let to-leader : iter τ k r ≡ leader O r = iter-mod O (p - b) r h ∙ leader-ahead O r h in
      sum-single p (λ b. χ (iter τ b r)) k kl
      (λ j a ne. chosen-other (leader O (iter τ j r)) (iter τ j r) (λ e. ne (moved-distinct O r h mv j k a kl (sym e ∙ leader-iter O j r h ∙ sym to-leader))))
      ∙ chosen-same (leader O (iter τ k r)) (iter τ k r) (leader-iter O k r h ∙ sym to-leader)

  pub sum-orbits : sum O.N (λ r. O.p * (chosen (leader O r) r * v r)) ≡ sum O.N v
  sum-orbits =
      let swapped : (r : ℕ) → sum p (λ b. χ (iter τ b r) * v r) ≡ v r * sum p (λ b. χ (iter τ b r))
      = λ r. sum_below p (λ b. χ (iter τ b r) * v r) (λ b. v r * χ (iter τ b r)) (λ b l. omega arith) ∙ sum-mul p (v r) (λ b. χ (iter τ b r)) in
      sum_below N (λ r. p * (χ r * v r)) (λ r. sum p (λ b. χ r * v r)) (λ r l. sym (sum-const p (χ r * v r)))
      ∙ sum-swap N p (λ r b. χ r * v r)
      ∙ sum_below p (λ b. sum N (λ r. χ r * v r)) (λ b. sum N (λ r. χ (iter τ b r) * v r)) (λ b l.
      let e : b + (p - b) ≡ p = omega arith in
      let e' : p - b + b ≡ p = omega arith in
      sym (sum_below N (λ r. χ (iter τ b r) * v r) (λ r. χ (iter τ b r) * v (iter τ b r)) (λ r h. ap (λ z. χ (iter τ b r) * z) (sym (along b r h)))
      ∙ sum-permuted N (iter τ b) (iter τ (p - b)) (λ r h. iter-below O b r h) (λ r h. iter-below O (p - b) r h)
      (λ r h. iter-add τ (p - b) b r ∙ ap (λ m. iter τ m r) e' ∙ home r h) (λ r h. iter-add τ b (p - b) r ∙ ap (λ m. iter τ m r) e ∙ home r h)
      (λ r. χ r * v r)))
      ∙ sym (sum-swap N p (λ r b. χ (iter τ b r) * v r))
      ∙ sum_below N (λ r. sum p (λ b. χ (iter τ b r) * v r)) v (λ r l. by_cases (ℕ_discrete (τ r) r)
      (λ f. swapped r ∙ ap (λ z. z * sum p (λ b. χ (iter τ b r))) (still r l (λ mv. mv f)) ∙ zero-mul _ ∙ sym (still r l (λ mv. mv f)))
      (λ f. let z : v r * 1 ≡ v r = omega arith in swapped r ∙ ap (λ z. v r * z) (once r l f) ∙ z))

-- ---- The next level

module _ (R : Rung) where
  open R use {T, m, i, L, stands}

  abbrev square : ℕ → ℕ
  square r = deg R r * deg R r

  -- the square of a representation that moves, and of one that does not
  abbrev v : ℕ → ℕ
  v r = cond (Steps.fixed (P R) m i L r) 0 (square r)

  abbrev w : ℕ → ℕ
  w r = cond (Steps.fixed (P R) m i L r) (square r) 0

  v-along : (k r : ℕ) → r < N R → v (iter (τ R) k r) ≡ v r
  v-along k r h = by_cases (ℕ_discrete (τ R r) r) (λ f. ap v (iter-fix (τ R) r f k))
      (λ f. fixed_no R (iter (τ R) k r) 0 (square (iter (τ R) k r)) (iter-moved (O R) k r h f)
      ∙ ap (λ d. d * d) (degree-iter R k r h) ∙ sym (fixed_no R r 0 (square r) f))

  -- what the representations that r gives have together
  given-squares : (r : ℕ) → r < N R
      → sum (made R r) (λ κ. (rep_of (next R) (sum r (made R) + κ)).deg * (rep_of (next R) (sum r (made R) + κ)).deg)
      ≡ p R * (w r + p R * (chosen (leader (O R) r) r * v r))
  unfolding Steps.extension Steps.induction
  given-squares r h =
      let g : ℕ → ℕ = λ κ. (rep_of (next R) (sum r (made R) + κ)).deg * (rep_of (next R) (sum r (made R) + κ)).deg in
      by_cases (ℕ_discrete (τ R r) r) (λ f.
      let z : p R * square r ≡ p R * (square r + p R * (chosen (leader (O R) r) r * 0)) = omega arith in
      ap (λ k. sum k g) (made-fixed R r f)
      ∙ sum_below (p R) g (λ κ. square r) (λ κ l. ap (λ (D : Rep). D.deg * D.deg) (given-fixed R r κ h f l)) ∙ sum-const (p R) (square r)
      ∙ z ∙ sym (ap₂ (λ x y. p R * (x + p R * (chosen (leader (O R) r) r * y))) (fixed-yes R r (square r) 0 f) (fixed-yes R r 0 (square r) f))) (λ f.
      by_cases (ℕ_discrete (leader (O R) r) r) (λ e.
      let one : g 0 ≡ p R * deg R r * (p R * deg R r) = ap (λ (D : Rep). D.deg * D.deg) (given-moved R r 0 h f e refl) in
      let s : sum 1 g ≡ g 0 = sum-suc 0 g ∙ ap (λ z. z + g 0) (sum-zero g) ∙ omega arith in
      let z : p R * deg R r * (p R * deg R r) ≡ p R * (0 + p R * (1 * square r)) = omega arith in
      ap (λ k. sum k g) (made-leader R r f e) ∙ s ∙ one ∙ z
      ∙ sym (ap₂ (λ x y. p R * (x + p R * y)) (fixed_no R r (square r) 0 f) (ap₂ (◌*◌) (chosen-same (leader (O R) r) r e) (fixed_no R r 0 (square r) f)))) (λ e.
      let z : 0 ≡ p R * (0 + p R * (0 * v r)) = omega arith in
      ap (λ k. sum k g) (made_other R r f e) ∙ sum-zero g ∙ z
      ∙ sym (ap₂ (λ x y. p R * (x + p R * (y * v r))) (fixed_no R r (square r) 0 f) (chosen-other (leader (O R) r) r e))))

  pub next-squares : sum (length (next R)) (λ r. (rep_of (next R) r).deg * (rep_of (next R) r).deg) ≡ order T.context.P (suc i)
  unfolding order
  next-squares =
      let h : ℕ → ℕ = λ r. (rep_of (next R) r).deg * (rep_of (next R) r).deg in
      ap (λ k. sum k h) (next-length R) ∙ sum-stretches (made R) (N R) h
      ∙ sum_below (N R) (λ s. sum (made R s) (λ κ. h (sum s (made R) + κ))) (λ r. p R * (w r + p R * (chosen (leader (O R) r) r * v r))) given-squares
      ∙ sum-mul (N R) (p R) (λ r. w r + p R * (chosen (leader (O R) r) r * v r))
      ∙ ap (λ z. p R * z) (sum-plus (N R) w (λ r. p R * (chosen (leader (O R) r) r * v r))
      ∙ ap (λ z. sum (N R) w + z) (sum-orbits (O R) v v-along (λ r l nm. by_cases (ℕ_discrete (τ R r) r) (fixed-yes R r 0 (square r)) (λ f. absurd (nm f))))
      ∙ sym (sum-plus (N R) w v)
      ∙ sum_below (N R) (λ r. w r + v r) square (λ r l.
      by_cases (ℕ_discrete (τ R r) r) (λ f. omega (arith, fixed-yes R r (square r) 0 f, fixed-yes R r 0 (square r) f))
      (λ f. omega (arith, fixed_no R r (square r) 0 f, fixed_no R r 0 (square r) f))) ∙ stands.squares)
