-- The level that stands last in the words stands as the survey asks.
--
--   target-in, target-degree     intertwiners lead to representations of the level, of one degree
--   iter-agree, home             orbits close after p steps
--   holds                        d lines hold each matrix
--   stands_at                    all of it, in the frame of the next level
--   placed, at-placed            a frame that says so is that one, so what holds there holds in it
--   stands                       all of it, in any frame that says so
use mathlib.Core.Path.{◌≡◌, sym, ◌∙◌, ap, subst}
use mathlib.Core.List.{List}
use Prim.Native.Nat.{ℕ, zero, suc, ◌+◌, ◌*◌, ◌-◌, ◌≤◌, ◌<◌}
use native.Mathlib.Nat.{mul-le-mul_left, mul-le-mul_right}
use native.Mathlib.Omega.{arith}
use lib.ListN.{length}
use Rattle.definitions.specs.declared.Entry.{Entry}
use Rattle.definitions.specs.Lists.{iter}
use Rattle.definitions.specs.Presentation.{max_order, Presentation, order}
use Rattle.definitions.specs.Monomial.{Level, rep_of}
use Rattle.definitions.specs.Steps.{levels}
use Rattle.numbers.proofs.Lists.{iter-zero, iter-suc}
use Rattle.group.proofs.Order.{order-positive}
use Rattle.clifford.specs.Accepted.{Accepted}
use Rattle.clifford.proofs.Standing.{Standing, standing, setting, rung}
use Rattle.clifford.proofs.Agreement.{target-listed}
use Rattle.clifford.proofs.Numbering.{O}
use Rattle.agreement.proofs.Table.{rungs}
use Rattle.level.specs.Stored.{Below, Holds, entry_in}
use Rattle.survey.specs.declared.Frame.{Frame}
use Rattle.survey.specs.Below.{LevelStands, first_of, deg_of, matrix_of, target_of}
use Rattle.levels.specs.Built.{up_to, lines_to, degree_in, frame_at, WithinCeilings, Placed}
use Rattle.levels.proofs.Places.{up_to-length, start_of, start-suc, start-end}
use Rattle.levels.proofs.Room.{order_le, whole, degree_pos, degree-le, reps-le, lines-small}
use Rattle.levels.proofs.Distinct.{rows-distinct}
use Rattle.levels.proofs.Words.{first-of, deg-of, line-of, target-of, entry_of, column_below}

-- iterates of maps that agree below N
iter-agree : (N : ℕ) (f g : ℕ → ℕ) → ((r : ℕ) → r < N → f r ≡ g r) → ((r : ℕ) → r < N → f r < N) → (k r : ℕ) → r < N → iter f k r ≡ iter g k r
iter-agree N f g e h zero r l = iter-zero f r ∙ sym (iter-zero g r)
iter-agree N f g e h (suc k) r l = iter-suc f k r ∙ iter-agree N f g e h k (f r) (h r l) ∙ ap (iter g k) (e r l) ∙ sym (iter-suc g k r)

module _ (A : Accepted) (k : ℕ) where
  abbrev pub P : Presentation
  P = A.C.P

  abbrev pub n : ℕ
  n = A.C.P.n

  abbrev pub m : ℕ
  m = order P n

  abbrev pub L : Level
  L = levels P m (suc k)

  abbrev pub d : ℕ → ℕ
  d = degree_in A k

  abbrev pub f : Frame
  f = frame_at A k

  abbrev pub W : List ℕ
  W = up_to A (suc k)

  abbrev pub p : ℕ
  p = P.p (suc k)

  -- ---- Targets

  module _ (l : k < n) where
    abbrev stands_here : Standing (setting A) (suc k) L
    stands_here = standing (setting A) (suc k) l

    pub ref-in : (j r : ℕ) → suc k ≤ j → j < n → r < length L → (rep_of L r).ref j 0 < length L
    ref-in j r a b h = subst (λ s. s < length L) (stands_here.literal j r) (target-listed A.C n m (order-positive A.C n) (suc k) L stands_here.F stands_here.stands j a b r h)

    pub target-in : (j r : ℕ) → suc k ≤ j → j < n → r < length L → target_of f W j r < length L
    target-in j r a b h = subst (λ s. s < length L) (sym (target-of A k l j r h b)) (ref-in j r a b h)

    pub target-degree : (j r : ℕ) → suc k ≤ j → j < n → r < length L → deg_of f W (target_of f W j r) ≡ deg_of f W r
    target-degree j r a b h =
        ap (deg_of f W) (target-of A k l j r h b) ∙ deg-of A k l ((rep_of L r).ref j 0) (ref-in j r a b h) ∙ ap d (sym (stands_here.literal j r))
        ∙ stands_here.stands.degree_target j a b r h ∙ sym (deg-of A k l r h)

    -- ---- Lines

    pub inside : (r : ℕ) → r < length L → first_of f W (suc r) ≤ lines_to A (suc k)
    inside r h = subst (λ x. x ≤ lines_to A (suc k)) (sym (first-of A k l (suc r) h)) (start-end A k (suc r) h)

    pub holds : m ≤ max_order → (r : ℕ) → r < length L → (g : ℕ) → g < n → Holds m W (matrix_of f W g r) (deg_of f W r)
    holds low r h g a = record {
      small = omega arith;
      fits =
          let line = line-of A k l g r (deg_of f W r) h ∙ ap (λ x. start_of A k r + (g * d r + x)) (deg-of A k l r h) in
          omega (arith, line, lines, up_to-length A (suc k));
      valid = λ c b.
          let e : c < d r = subst (λ x. c < x) (deg-of A k l r h) b in
          subst (λ x. Below m x (entry_in W (matrix_of f W g r + c))) (sym (deg-of A k l r h)) (subst (Below m (d r)) (sym (entry_of A k l g r c h a e)) (column_below A k l r g c h a e));
      distinct = λ c c' b b' e.
          let lower : c < d r = subst (λ x. c < x) (deg-of A k l r h) b in
          let upper : c' < d r = subst (λ x. c' < x) (deg-of A k l r h) b' in
          let row = ap (λ (y : Entry). y.row) (entry_of A k l g r c h a lower) in
          let row' = ap (λ (y : Entry). y.row) (entry_of A k l g r c' h a upper) in
          rows-distinct A k l r g h a c c' lower upper (sym row ∙ e ∙ row');
    }
      where
        lines : 8 * (start_of A k r + (g * d r + d r)) ≤ 8 * lines_to A (suc k)
        lines =
            let z : suc g * d r ≤ n * d r = mul-le-mul_right (d r) a in
            omega (arith, start-suc A k r, start-end A k (suc r) h)

  module _ (l : suc k < n) where
    -- ---- Orbits

    lower : k < n
    lower = omega arith

    home : (r : ℕ) → r < length L → iter (λ r. (rep_of L r).ref (suc k) 0) p r ≡ r
    unfolding rung
    home r h =
        let R = rungs A (suc k) l in
        iter-agree (length L) (λ r. (rep_of L r).ref (suc k) 0) (R.F.target (suc k)) (λ r a. sym (R.literal (suc k) r)) (λ r a. ref-in lower (suc k) r (omega arith) l a) p r h
        ∙ (O R).home r h

    pub cycle : (r : ℕ) → r < length L → iter (target_of f W (suc k)) p r ≡ r
    cycle r h =
        iter-agree (length L) (target_of f W (suc k)) (λ r. (rep_of L r).ref (suc k) 0) (λ r a. target-of A k lower (suc k) r a l) (λ r a. target-in lower (suc k) r (omega arith) l a) p r h
        ∙ home r h

    -- ---- Bounds

    prime-order : p * order P (suc k) ≤ m
    unfolding order
    prime-order = order_le A (suc (suc k)) l

    listed-order : p * length L ≤ m
    listed-order = let a : p * length L ≤ p * order P (suc k) = mul-le-mul_left p (reps-le A k lower) in omega (arith, prime-order)

    -- no prime above the first is greater than half the order
    doubled : 2 * p ≤ m
    unfolding order
    doubled =
        let a : P.p k * 1 ≤ P.p k * order P k = mul-le-mul_left (P.p k) (order-positive A.C k) in
        let b : p * 2 ≤ p * order P (suc k) = mul-le-mul_left p (omega (arith, A.C.two k)) in
        omega (arith, prime-order)

    pub stands_at : WithinCeilings A → LevelStands f W
    stands_at S = record {
      few = omega (arith, S.low, listed-order);
      gens = (l, S.few);
      prime = (A.C.two (suc k), omega (arith, S.low, doubled));
      units = A.units (suc k) l;
      modulus = (order-positive A.C n, omega (arith, S.low));
      whole = whole A (suc k) l;
      short = (omega (arith, up_to-length A (suc k)), omega (arith, lines-small A S (suc k) (omega arith)));
      inside = inside lower;
      wide = λ r h. (subst (λ x. 0 < x) (sym (deg-of A k lower r h)) (degree_pos A k lower r h), subst (λ x. p * x ≤ 65536) (sym (deg-of A k lower r h)) (narrow S r h));
      valid = λ r h g a. holds lower S.low r h g a;
      target = λ r h j a b. (target-in lower j r a b h, target-degree lower j r a b h);
      cycle = cycle;
    }
      where
        narrow : WithinCeilings A → (r : ℕ) → r < length L → p * d r ≤ 65536
        narrow S r h =
            let a : p * d r ≤ p * order P (suc k) = mul-le-mul_left p (degree-le A k lower r h) in
            omega (arith, prime-order, S.low)

-- ---- In any frame that says so

pub placed : (A : Accepted) (k : ℕ) (f : Frame) (W : List ℕ) → Placed A (suc k) f W → f ≡ frame_at A k
placed A k f W Q =
    let e : suc k - 1 ≡ k = omega arith in
    let b : 8 * f.base ≡ 8 * lines_to A k = Q.base_is ∙ ap (λ x. length (up_to A x)) e ∙ up_to-length A k in
    let c : 8 * f.end ≡ 8 * lines_to A (suc k) = Q.end_is ∙ up_to-length A (suc k) in
    let base : f.base ≡ lines_to A k = omega arith in
    let end : f.end ≡ lines_to A (suc k) = omega arith in
    λ o. record { m = Q.modulus_is o; top = Q.top_is o; gens = Q.gens_is o; p = Q.prime_is o; base = base o; reps = Q.reps_is o; end = end o }

pub at-placed : (A : Accepted) (Q : ℕ → Frame → List ℕ → Type 0) → ((k : ℕ) → suc k < A.C.P.n → Q (suc k) (frame_at A k) (up_to A (suc k)))
    → (i : ℕ) (f : Frame) (W : List ℕ) → Placed A i f W → Q i f W
at-placed A Q h zero f W p = absurd (omega (arith, p.above))
at-placed A Q h (suc k) f W p =
    subst (λ f. Q (suc k) f W) (sym (placed A k f W p)) (subst (Q (suc k) (frame_at A k)) (sym p.words_are) (h k p.below))

pub stands : (A : Accepted) → WithinCeilings A → (i : ℕ) (f : Frame) (W : List ℕ) → Placed A i f W → LevelStands f W
stands A S = at-placed A (λ i. LevelStands) (λ k l. stands_at A k l S)
