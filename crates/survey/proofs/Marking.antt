-- Marking the orbits of the generator on top, one member after the other.
--
--   marking-none               nothing is marked
--   marking-next               where the orbit of r is marked, all orbits up to it are
--   marking_step, marking_put  one more member of the orbit of r; the same in notes
--   marking-alone, marking_put_alone      the one member of an orbit that does not move; the same in notes
--   marking-done               all members of the orbit of r, and so all orbits up to it
--   marking-skip               r is led by another, so it begins no orbit
--   marking-all                every orbit
use mathlib.Core.Path.{◌≡◌, refl, ap, sym, ◌∙◌, subst}
use mathlib.Core.Logic.{by_cases}
use mathlib.Core.List.{List}
use Prim.Native.Nat.{ℕ, ◌+◌, ◌<◌, ◌≤◌}
use native.Mathlib.Omega.{arith}
use native.Mathlib.Decide.{dec_lt, ℕ_discrete}
use lib.ListN.{length, get_or, set, length-set}
use lib.Seq.{get_or-set_same, get_or-set_other}
use Rattle.std.proofs.Math.Seq.{map-set_same}
use Rattle.std.proofs.lemmas.List.{map-set}
use Rattle.definitions.specs.Lists.{iter}
use lib.Dec.{eqb}
use borrow.Author.Tests.{eq-eqb}
use Rattle.numbers.proofs.Lists.{iter-zero, iter-fix}
use Rattle.numbers.proofs.Searches.{least-least}
use Rattle.numbers.proofs.Orbits.{leader, position, leader-least, leader-iter, leader-leader, leader-fixed, position-below, position-back, iter-below, moved-distinct}
use Rattle.survey.specs.declared.Frame.{Frame}
use Rattle.survey.specs.declared.Note.{Note}
use Rattle.survey.specs.Notes.{leaders, positions}
use Rattle.survey.specs.Below.{target_of, leader_in, position_in, LevelStands, Array, MarkedTo}
use Rattle.survey.proofs.Level.{orbits}
use Rattle.survey.proofs.Notes.{blank, marked, placed, marked-leaders, marked-positions}

module _ (f : Frame) (W : List ℕ) (S : LevelStands f W) where
  abbrev τ : ℕ → ℕ
  τ = target_of f W f.top

  abbrev lead : ℕ → ℕ
  lead = leader_in f W

  abbrev pos : ℕ → ℕ
  pos = position_in f W

  -- ---- Leaders and positions

  pub lead-below : (q : ℕ) → q < f.reps → lead q ≤ q
  unfolding orbits leader
  lead-below q l = subst (λ z. lead z ≤ q) (iter-zero τ q) (leader-least (orbits f W S) q 0 l)

  pub lead-of : (r k : ℕ) → r < f.reps → lead (iter τ k r) ≡ lead r
  unfolding orbits leader
  lead-of r k l = leader-iter (orbits f W S) k r l

  pub lead-lead : (q : ℕ) → q < f.reps → lead (lead q) ≡ lead q
  unfolding orbits leader
  lead-lead q l = leader-leader (orbits f W S) q l

  pub lead-fixed : (q : ℕ) → q < f.reps → τ q ≡ q → lead q ≡ q
  unfolding orbits leader
  lead-fixed q l e = leader-fixed (orbits f W S) q l e

  pub pos-below : (q : ℕ) → q < f.reps → pos q < f.p
  unfolding orbits position leader
  pos-below q l = position-below (orbits f W S) q l

  pub pos-back : (q : ℕ) → q < f.reps → iter τ (pos q) (lead q) ≡ q
  unfolding orbits position leader
  pos-back q l = position-back (orbits f W S) q l

  pub pos-least : (q k : ℕ) → iter τ k (lead q) ≡ q → pos q ≤ k
  pos-least q k e = least-least f.p (λ j. eqb (iter τ j (lead q)) q) k (eq-eqb (iter τ k (lead q)) q e)

  pub pos-moved : (r k : ℕ) → r < f.reps → lead r ≡ r → ¬ (τ r ≡ r) → k < f.p → pos (iter τ k r) ≡ k
  unfolding orbits
  pos-moved r k l own v h =
      let q : ℕ = iter τ k r in
      let b : q < f.reps = iter-below (orbits f W S) k r l in
      let e : iter τ (pos q) r ≡ iter τ k r = ap (λ z. iter τ (pos q) z) (sym (lead-of r k l ∙ own)) ∙ pos-back q b in
      moved-distinct (orbits f W S) r l v (pos q) k (pos-below q b) h e

  pub orbit-inside : (r k : ℕ) → r < f.reps → iter τ k r < f.reps
  unfolding orbits
  orbit-inside r k l = iter-below (orbits f W S) k r l

  pub orbit-member : (r k q : ℕ) → r < f.reps → q ≡ iter τ k r → q < f.reps
  orbit-member r k q l e = subst (λ x. x < f.reps) (sym e) (orbit-inside r k l)

  -- ---- The marks

  pub marking-none : (a b : List ℕ) → f.reps ≤ length a → f.reps ≤ length b → ((k : ℕ) → k < f.reps → get_or a k 0 ≡ k) → MarkedTo f W a b 0 0
  marking-none a b l m h = record {
    long = (l, m);
    earlier = λ q _ k. absurd (omega arith);
    these = λ q _ _ k. absurd (omega arith);
    later = λ q k _ _. h q k;
    others = λ q k _. h q k;
  }

  -- where the orbit of r is marked, all orbits up to it are
  marking-next : (r : ℕ) (a b : List ℕ) (k : ℕ) → MarkedTo f W a b r k
      → ((q : ℕ) → q < f.reps → lead q ≡ r → (get_or a q 0 ≡ lead q) × (get_or b q 0 ≡ pos q)) → MarkedTo f W a b (r + 1) 0
  marking-next r a b k M own = record {
    long = M.long;
    earlier = λ q l h. pick q l h (dec_lt (lead q) r);
    these = λ q l e h. absurd (omega arith);
    later = λ q l e h. M.others q l (omega (arith, e));
    others = λ q l h. M.others q l (omega arith);
  }
    where
      pick : (q : ℕ) → q < f.reps → lead q < r + 1 → Dec (lead q < r) → (get_or a q 0 ≡ lead q) × (get_or b q 0 ≡ pos q)
      pick q l h (yes z) = M.earlier q l z
      pick q l h (no z) = own q l (omega arith)

  module _ (r : ℕ) (hr : r < f.reps) (own : lead r ≡ r) where
    -- member k of the orbit has r for its leader
    member : (k : ℕ) → lead (iter τ k r) ≡ r
    member k = lead-of r k hr ∙ own

    -- the member at a position
    at_position : (q k : ℕ) → q < f.reps → lead q ≡ r → pos q ≡ k → q ≡ iter τ k r
    at_position q k l e e' = sym (pos-back q l) ∙ ap (λ z. iter τ (pos q) z) e ∙ ap (λ z. iter τ z r) e'

    pub marking_step : ¬ (τ r ≡ r) → (k : ℕ) (a b : List ℕ) → k < f.p → MarkedTo f W a b r k
        → MarkedTo f W (set a (iter τ k r) r) (set b (iter τ k r) k) r (k + 1)
    marking_step v k a b hk M = record {
      long = (omega (arith, length-set a q₀ r, M.long.0), omega (arith, length-set b q₀ k, M.long.1));
      earlier = λ q l h. keep q (λ e. omega (arith, ap lead e, member k)) (M.earlier q l h);
      these = λ q l e h. pick q l e h (ℕ_discrete (pos q) k);
      later = λ q l e h. get_or-set_other a q₀ q r 0 (λ e'. omega (arith, ap pos e', here)) ∙ M.later q l e (omega arith);
      others = λ q l h. get_or-set_other a q₀ q r 0 (λ e. omega (arith, ap lead e, member k)) ∙ M.others q l h;
    }
      where
        q₀ : ℕ
        q₀ = iter τ k r

        l₀ : q₀ < f.reps
        l₀ = orbit-inside r k hr

        here : pos q₀ ≡ k
        here = pos-moved r k hr own v hk

        keep : (q : ℕ) → ¬ (q ≡ q₀) → {x y : ℕ} → (get_or a q 0 ≡ x) × (get_or b q 0 ≡ y) → (get_or (set a q₀ r) q 0 ≡ x) × (get_or (set b q₀ k) q 0 ≡ y)
        keep q n t = (get_or-set_other a q₀ q r 0 n ∙ t.0, get_or-set_other b q₀ q k 0 n ∙ t.1)

        pick : (q : ℕ) → q < f.reps → lead q ≡ r → pos q < k + 1 → Dec (pos q ≡ k) → (get_or (set a q₀ r) q 0 ≡ r) × (get_or (set b q₀ k) q 0 ≡ pos q)
        pick q l e h (yes z) =
            let w = at_position q k l e z in (
              ap (λ x. get_or (set a q₀ r) x 0) w ∙ get_or-set_same a q₀ r 0 (omega (arith, l₀, M.long.0)),
              ap (λ x. get_or (set b q₀ k) x 0) w ∙ get_or-set_same b q₀ k 0 (omega (arith, l₀, M.long.1)) ∙ sym z,
            )
        pick q l e h (no z) = keep q (λ e'. z (ap pos e' ∙ here)) (M.these q l e (omega (arith, z)))

    pub marking_put : ¬ (τ r ≡ r) → (k q : ℕ) (n : List Note) → k < f.p → q ≡ iter τ k r → MarkedTo f W (leaders n) (positions n) r k
        → MarkedTo f W (leaders (marked n q r k)) (positions (marked n q r k)) r (k + 1)
    marking_put v k q n hk e M =
        let a = subst (λ x. leaders (marked n q r k) ≡ set (leaders n) x r) e (marked-leaders n q r k) in
        let b = subst (λ x. positions (marked n q r k) ≡ set (positions n) x k) e (marked-positions n q r k) in
        subst (λ x. MarkedTo f W x (positions (marked n q r k)) r (k + 1)) (sym a)
        (subst (λ x. MarkedTo f W (set (leaders n) (iter τ k r) r) x r (k + 1)) (sym b) (marking_step v k (leaders n) (positions n) hk M))

    -- an orbit of one member
    pub marking-alone : τ r ≡ r → (a b : List ℕ) → MarkedTo f W a b r 0 → MarkedTo f W a (set b r 0) r f.p
    marking-alone e a b M = record {
      long = (M.long.0, omega (arith, length-set b r 0, M.long.1));
      earlier = λ q l h.
          let t = M.earlier q l h in
          (t.0, get_or-set_other b r q 0 0 (λ z. omega (arith, ap lead z, own)) ∙ t.1);
      these = λ q l h _.
          let w : q ≡ r = at_position q (pos q) l h refl ∙ iter-fix τ r e (pos q) in
          let z : pos q ≤ 0 = pos-least q 0 (iter-zero τ (lead q) ∙ h ∙ sym w) in
          (M.later q l h (omega arith) ∙ w, ap (λ x. get_or (set b r 0) x 0) w ∙ get_or-set_same b r 0 0 (omega (arith, hr, M.long.1)) ∙ omega arith);
      later = λ q l h k. absurd (omega (arith, pos-below q l));
      others = M.others;
    }

    pub marking_put_alone : τ r ≡ r → (n : List Note) → MarkedTo f W (leaders n) (positions n) r 0
        → MarkedTo f W (leaders (placed n r 0)) (positions (placed n r 0)) r f.p
    marking_put_alone e n M =
        let a : leaders (placed n r 0) ≡ leaders n = map-set_same (λ (x : Note). x.leader) n r _ blank refl in
        let b : positions (placed n r 0) ≡ set (positions n) r 0 = map-set (λ (x : Note). x.position) n r _ in
        subst (λ x. MarkedTo f W x (positions (placed n r 0)) r f.p) (sym a)
        (subst (λ x. MarkedTo f W (leaders n) x r f.p) (sym b) (marking-alone e (leaders n) (positions n) M))

    pub marking-done : (a b : List ℕ) → MarkedTo f W a b r f.p → MarkedTo f W a b (r + 1) 0
    marking-done a b M = marking-next r a b f.p M (λ q l e. let t = M.these q l e (pos-below q l) in (t.0 ∙ sym e, t.1))

  pub marking-skip : (r : ℕ) (a b : List ℕ) → r < f.reps → ¬ (get_or a r 0 ≡ r) → MarkedTo f W a b r 0 → MarkedTo f W a b (r + 1) 0
  marking-skip r a b l n M = marking-next r a b 0 M (λ q h e. absurd (n (M.later r l (ap lead (sym e) ∙ lead-lead q h ∙ e) (omega arith))))

  -- if r is its own leader, it begins its orbit
  pub marking-own : (r : ℕ) (a b : List ℕ) → r < f.reps → get_or a r 0 ≡ r → MarkedTo f W a b r 0 → lead r ≡ r
  marking-own r a b l e M = by_cases (dec_lt (lead r) r)
      (λ h. absurd (omega (arith, (M.earlier r l h).0, e)))
      (λ h. omega (arith, lead-below r l))

  pub marking-all : (a b : List ℕ) → MarkedTo f W a b f.reps 0 → Array f W a lead × Array f W b pos
  marking-all a b M = (
    record { long = M.long.0; at = λ q l. (M.earlier q l (omega (arith, lead-below q l))).0 },
    record { long = M.long.1; at = λ q l. (M.earlier q l (omega (arith, lead-below q l))).1 },
  )
