-- Inductions by closed formulas.
--
--   plus-shows            generator i on an entry of an orbit that moves
--   cycle-moves           the same, with the number of the block
--   conjugate-entry       column 0 of a block, moved by the conjugate of generator i
--   block_is, block_same  the blocks along generator i
--   left-same             the left side of the equation that forces the scalars
use mathlib.Core.Path.{◌≡◌, refl, sym, ◌∙◌, ap, ap₂, subst}
use mathlib.Core.Logic.{by_cases}
use Prim.Native.Nat.{ℕ, zero, suc, ◌+◌, ◌*◌, ◌-◌, ◌%◌, ◌<◌}
use native.Mathlib.Nat.{mod-eq_of_lt, mod_self, mod-lt, mod-add-mod, zero-mod, mul-suc}
use native.Mathlib.Omega.{arith}
use native.Mathlib.Decide.{dec_lt}
use Rattle.definitions.specs.declared.Entry.{Entry}
use Rattle.definitions.specs.Lists.{iter}
use Rattle.definitions.specs.Presentation.{power}
use Rattle.definitions.specs.Monomial.{entry, col, act, rep_of}
use Rattle.definitions.specs.Steps
use Rattle.formulas.specs.Formulas as Fm
use Rattle.formulas.specs.Formulas.{Moved}
use Rattle.numbers.proofs.Bools.{cond-lt, cond-ge}
use Rattle.numbers.proofs.Lists.{iter-zero, iter-suc, iter-add}
use Rattle.numbers.proofs.Iterates.{iter-out}
use Rattle.numbers.proofs.Orbits.{leader, position, iter-below, leader-iter}
use Rattle.group.specs.Context.{Nf}
use Rattle.group.proofs.Values.{power_zero, power-suc}
use Rattle.group.proofs.Level.{w_nf}
use Rattle.monomial.specs.Maps.{Map, maps}
use Rattle.monomial.proofs.Residues.{residues, nil-value}
use Rattle.clifford.specs.Stands.{Rung}
use Rattle.clifford.proofs.Numbering.{P, p, N, deg, rep, τ, S, ready, O, rep_below}
use Rattle.clifford.proofs.Defect.{defect, defect-const, defect-power, X-maps}
use Rattle.clifford.proofs.Top.{Y, Y-maps, φ, φ-is, φ-maps}
use Rattle.clifford.proofs.Scalars.{σ, σ-last, σ-other}
use Rattle.clifford.proofs.Extensions.{E, 𝓢, first, first_rep}
use Rattle.clifford.proofs.Inductions.{Member, member, position-of, position-mod}
use Rattle.clifford.proofs.Intertwiners.{block-after, member_of, at_block, left-shows}
use Rattle.monomial.proofs.Schur.{rep-power}
use Rattle.agreement.proofs.Entries.{Sc, Z, stand, move, move-mul, move-one, act-shows, walk-shows, origin, origin-rep, origin-stands, origin-moves}
use Rattle.agreement.proofs.Entries.{move-pair, stand-exp, turn-same, shift_is}
use Rattle.agreement.proofs.Extended.{plus-on}

module _ (R : Rung) where
  open R use {T, m, pos, i, L, Ω, F, stands}
  open R.stands use {column}
  open residues m pos use {add, neg}

  abbrev two : 1 < p R
  two = T.context.two i

  abbrev Yo : Map (E R) Ω
  Yo = Y (S R) F (𝓢 R)

  -- ---- Generator i on an orbit that moves

  module _ (r : ℕ) (h : r < N R) (mv : ¬ (τ R r ≡ r)) (own : leader (O R) r ≡ r) where
    abbrev In : Z R → Type 0
    In z = leader (O R) (rep R z.0) ≡ r

    of : (z : Z R) → In z → Member R r h mv own z.0
    of z e = member R r h mv own z.0 e

    -- the constant of a block
    shift-block : (z : Z R) → In z → Fm.shift_of (Sc R) r (position (O R) (rep R z.0)) ≡ (σ (S R) m pos F (ready R) (rep R z.0)).0
    shift-block z e =
        let s : ℕ = rep R z.0 in
        let b : ℕ = position (O R) s in
        let along = rep-power F (τ R) (F.X i) (X-maps (S R) F) b (first R r) ∙ ap (iter (τ R) b) (first_rep R r h) in
        let defect-here : defect (S R) F (first R s) ≡ defect (S R) F (first R r)
        = defect-const (S R) F _ _ (first_rep R s (rep_below R z.0) ∙ sym (of z e).back ∙ sym along) ∙ defect-power (S R) F b (first R r) in
        by_cases (dec_lt (suc b) (p R))
        (λ l. cond-lt (suc b) (p R) _ _ l ∙ sym (ap (λ z. z.0) (σ-other (S R) m pos F (ready R) s (of z e).moved (λ q. omega arith)) ∙ nil-value m pos))
        (λ l. let q : b ≡ p R - 1 = omega (arith, (of z e).below) in
        cond-ge (suc b) (p R) _ _ (omega arith) ∙ shift_is R r h
        ∙ sym (ap (λ z. z.0) (σ-last (S R) m pos F (ready R) s (of z e).moved q ∙ ap neg defect-here)))

    pub plus-shows : (z : Z R) → leader (O R) (rep R z.0) ≡ r
        → Fm.plus m (Fm.shift_of (Sc R) r (position (O R) (rep R z.0))) (act m ((rep_of L (rep R z.0)).matrix i) (stand R z)) ≡ stand R (move R Yo z)
    plus-shows z e = plus-on R _ (stands.intertwines i (omega arith) R.in_range (rep R z.0) (rep_below R z.0)) z refl (shift-block z e)

    -- an entry of the orbit, with its block
    unfoldable held : Z R → Moved
    held z = record { block = position (O R) (rep R z.0); at = stand R z }

    next-in : (z : Z R) → In z → In (move R Yo z)
    unfolding move
    next-in z e =
        ap (leader (O R)) (Y-maps (S R) F (𝓢 R) z.0 ∙ sym (iter-suc (τ R) 0 (rep R z.0) ∙ iter-zero (τ R) (τ R (rep R z.0)))) ∙ leader-iter (O R) 1 (rep R z.0) (rep_below R z.0) ∙ e

    next-block : (z : Z R) → In z → Fm.next_of (Sc R) (position (O R) (rep R z.0)) ≡ position (O R) (rep R (move R Yo z).0)
    unfolding move
    next-block z e =
        let b : ℕ = position (O R) (rep R z.0) in
        let turned : Fm.next_of (Sc R) b ≡ suc b % p R = by_cases (dec_lt (suc b) (p R)) (λ l. cond-lt (suc b) (p R) _ _ l ∙ sym (mod-eq_of_lt l))
        (λ l. let q : suc b ≡ p R = omega (arith, (of z e).below) in cond-ge (suc b) (p R) _ _ (omega arith) ∙ sym (ap (λ k. k % p R) q ∙ mod_self (p R))) in
        turned ∙ sym (ap (position (O R)) (Y-maps (S R) F (𝓢 R) z.0 ∙ ap (τ R) (sym (of z e).back) ∙ sym (iter-out (τ R) b r))
        ∙ position-mod R r h mv own (suc b))

    orbit-back : (z : Z R) → In z → Fm.orbit (Sc R) r (position (O R) (rep R z.0)) ≡ rep R z.0
    orbit-back z e = turn-same R r _ ∙ (of z e).back

    cycle-moves : (z : Z R) → In z → Fm.cycle_entry (Sc R) r (held z) ≡ held (move R Yo z)
    unfolding held Fm.cycle_entry
    cycle-moves z e = λ o. record {
      block = next-block z e o;
      at = (ap (λ t. Fm.plus m (Fm.shift_of (Sc R) r (position (O R) (rep R z.0))) (act m ((rep_of L t).matrix i) (stand R z))) (orbit-back z e) ∙ plus-shows z e) o;
    }

    cycle-iter : (k : ℕ) (z : Z R) → In z → (iter (Fm.cycle_entry (Sc R) r) k (held z) ≡ held (move R (power (maps (E R) Ω) Yo k) z)) × In (move R (power (maps (E R) Ω) Yo k) z)
    cycle-iter zero z e =
        let q : z ≡ move R (power (maps (E R) Ω) Yo zero) z = sym (ap (λ B. move R B z) (power_zero (maps (E R) Ω) Yo) ∙ move-one R z) in
        (iter-zero (Fm.cycle_entry (Sc R) r) (held z) ∙ ap held q, subst In q e)
    cycle-iter (suc k) z e =
        let (a, b) = cycle-iter k z e in
        let y : Z R = move R (power (maps (E R) Ω) Yo k) z in
        let q : move R Yo y ≡ move R (power (maps (E R) Ω) Yo (suc k)) z = sym (ap (λ B. move R B z) (power-suc (maps (E R) Ω) Yo k) ∙ move-mul R Yo _ z) in
        (iter-out (Fm.cycle_entry (Sc R) r) k (held z) ∙ ap (Fm.cycle_entry (Sc R) r) a ∙ cycle-moves y b ∙ ap held q, subst In q (next-in y b))

    -- ---- A generator above

    module _ (j : ℕ) (ij : i < j) (jn : j < T.n) where
      abbrev A : ℕ
      A = suc ((P R).w i j).0

      abbrev mem : ℕ → Ω
      mem b = first R (iter (τ R) b r)

      abbrev φo : Map (E R) Ω
      φo = φ (S R) F (𝓢 R) j ij jn

      conjugate-entry : (b : ℕ) → b < p R → (Fm.conjugate_entry (Sc R) j r b ≡ held (φo (mem b))) × In (φo (mem b))
      unfolding Fm.conjugate_entry held w_nf
      conjugate-entry b l =
          let s : ℕ = iter (τ R) b r in
          let hs : s < N R = iter-below (O R) b r h in
          let x : Nf T.context i = ((w_nf T.context i j).0.1, (w_nf T.context i j).1.1) in
          let o : Z R = origin R s in
          let (a, c) = walk-shows R s hs x o (origin-rep R s hs) in
          let y : Z R = move R (F.d x) o in
          let in_y : In y = ap (leader (O R)) c ∙ leader-iter (O R) b r h ∙ own in
          let start : ◌≡◌ {A = Moved} (record { block = b; at = Fm.walk m (λ g. (rep_of L (Fm.orbit (Sc R) r b)).matrix g) i ((P R).w i j).1 (entry 0 0) }) (held y)
          = λ k. record {
            block = (sym (ap (position (O R)) c ∙ position-of R r h mv own b l)) k;
            at = (ap₂ (λ t x. Fm.walk m (λ g. (rep_of L t).matrix g) i ((P R).w i j).1 x) (turn-same R r b) (sym (origin-stands R s)) ∙ a) k;
          } in
          let (d, e) = cycle-iter A y in_y in
          let q : move R (power (maps (E R) Ω) Yo A) y ≡ φo (mem b) = sym (move-mul R _ _ o) ∙ ap (λ B. move R B o) (sym (φ-is (S R) F (𝓢 R) j ij jn)) ∙ origin-moves R φo s in
          (ap (iter (Fm.cycle_entry (Sc R) r) A) start ∙ d ∙ ap held q, subst In q e)

      -- the block, and both sides at column 0
      block-step : (b : ℕ) → b < p R → (Fm.conjugate_entry (Sc R) j r b).block ≡ (b + A) % p R
      unfolding held
      block-step b l =
          let s : ℕ = iter (τ R) b r in
          ap (λ (x : Moved). x.block) (conjugate-entry b l).0
          ∙ ap (position (O R)) (φ-maps (S R) F (𝓢 R) j ij jn (mem b) ∙ ap (iter (τ R) A) (first_rep R s (iter-below (O R) b r h)) ∙ iter-add (τ R) b A r) ∙ position-mod R r h mv own (b + A)

      pub block_is : (t : ℕ) → Fm.block_at (Sc R) j r t ≡ (suc ((P R).w i j).0 * t) % p R
      unfolding Fm.block_at
      block_is zero = let z : A * 0 ≡ 0 = omega arith in sym (ap (λ k. k % p R) z ∙ zero-mod (p R))
      block_is (suc t) =
          ap (λ b. (Fm.conjugate_entry (Sc R) j r b).block) (block_is t) ∙ block-step ((A * t) % p R) (mod-lt _ (omega (arith, two)))
          ∙ mod-add-mod (A * t) (p R) A ∙ ap (λ k. k % p R) (sym (mul-suc A t))

      pub block_same : (t : ℕ) → Fm.block_at (Sc R) j r t ≡ Steps.block_after (P R) m i L j r t
      block_same t = block_is t ∙ sym (block-after R j ij jn r h mv own t)

      pub left-same : (b : ℕ) → b < p R → Fm.left_at (Sc R) j r b ≡ (col (Steps.left_side (P R) m i L j r) (b * deg R r)).exp
      unfolding Fm.left_at held member_of
      left-same b l =
          let (a, e) = conjugate-entry b l in
          let z : Z R = φo (mem b) in
          let Xj = stands.intertwines j (omega arith) jn (rep R z.0) (rep_below R z.0) in
          ap (λ (x : Moved). (act m ((rep_of L (Fm.orbit (Sc R) r x.block)).matrix j) x.at).exp) a ∙ ap (λ t. (act m ((rep_of L t).matrix j) (stand R z)).exp) (orbit-back z e)
          ∙ ap (λ (x : Entry). x.exp) (act-shows R Xj z refl) ∙ stand-exp R _ ∙ ap (λ y. y.1.0) (move-pair R (F.X j) φo (mem b))
          ∙ sym (ap (λ (x : Entry). x.exp) (at_block R j ij jn r h mv own (left-shows R j ij jn r h mv own) b l))
