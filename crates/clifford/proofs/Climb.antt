-- The next level of the steps stands on its family, and is cut into blocks of the level below.
--
--   next-stands          the next level stands
--   next-restricts       its representations are cut into blocks
use mathlib.Core.Path.{◌≡◌, refl, sym, ◌∙◌, ap, subst}
use mathlib.Core.Logic.{by_cases}
use Prim.Native.Nat.{ℕ, suc, ◌+◌, ◌*◌, ◌≤◌, ◌<◌}
use native.Mathlib.Nat.{mul-pos}
use native.Mathlib.Omega.{arith}
use native.Mathlib.Decide.{ℕ_discrete}
use lib.Arith.{digits_div}
use lib.ListN.{length}
use Rattle.definitions.specs.Monomial.{Matrix, entry, col, Rep, rep_of}
use Rattle.definitions.specs.Steps
use Rattle.numbers.proofs.Bools.{cond-lt}
use Rattle.numbers.proofs.Blocks.{get_or-even}
use Rattle.numbers.proofs.Orbits.{leader}
use Rattle.clifford.specs.Stands.{Stands, Restricts, Rung}
use Rattle.clifford.proofs.Numbering.{P, p, N, deg, rep, τ, O, rep_below, next, made_some}
use Rattle.clifford.proofs.Indices.{Index, base, mk, wide, wide_below, next-complete, next-find, next-below, degree-fixed, degree-moved}
use Rattle.clifford.proofs.Extensions.{first}
use Rattle.clifford.proofs.Next.{target_fixed, target-moved, next-target, next-X, next-X-is, mapped, family}
use Rattle.clifford.proofs.Inductions.{lift-col, lift-length, orb, orb-below, orb-degree}
use Rattle.clifford.proofs.Rise.{at_source, extension-low, extension-base, induction-low, induction-base, next-represents, next-intertwines, next-refers}
use Rattle.clifford.proofs.Squares.{next-squares}

module _ (R : Rung) where
  open R use {T, m, pos, i, L, Ω, F, stands}

  -- ---- Degrees

  next-degree-pos : (r' : ℕ) → r' < length (next R) → 0 < (rep_of (next R) r').deg
  unfolding Steps.extension Steps.induction
  next-degree-pos r' h = at_source R (0 < (rep_of (next R) r').deg) r' h
      (λ e. subst (λ (D : Rep). 0 < D.deg) (sym e.rep_is) (stands.degree_pos e.s e.s_below))
      (λ e. subst (λ (D : Rep). 0 < D.deg) (sym e.rep_is) (mul-pos (omega (arith, T.context.two i)) (stands.degree_pos e.s e.s_below)))

  next-degree-target : (j : ℕ) → suc i ≤ j → j < T.n → (r' : ℕ) → r' < length (next R) → (rep_of (next R) (next-target R j r')).deg ≡ (rep_of (next R) r').deg
  unfolding mapped
  next-degree-target j ij jn r' h =
      let o = next-find R r' 0 h (next-degree-pos r' h) in
      let x : Index R = o.index in
      let y : Index R = (next-X R j x).0 in
      let r : ℕ = rep R (base R x) in
      let l : r < N R = rep_below R (base R x) in
      let ry : rep R (base R y) ≡ F.target j r = ap (λ f. rep R (base R (f x).0)) (next-X-is R j ij jn) ∙ F.maps_to j (omega arith) jn (base R x) in
      let same : deg R (rep R (base R y)) ≡ deg R r = ap (deg R) ry ∙ stands.degree_target j (omega arith) jn r l in
      ap (λ r. (rep_of (next R) (next-target R j r)).deg) (sym o.is_rep) ∙ ap (λ r. (rep_of (next R) r).deg) (sym ((family R).maps_to j ij jn x))
      ∙ by_cases (ℕ_discrete (τ R r) r)
      (λ f. degree-fixed R y (subst (λ s. τ R s ≡ s) (sym ry) (target_fixed R j ij jn r l f)) ∙ same ∙ sym (degree-fixed R x f))
      (λ f. degree-moved R y (λ g. target-moved R j ij jn r l f (subst (λ s. τ R s ≡ s) ry g)) ∙ ap (λ d. p R * d) same ∙ sym (degree-moved R x f))
      ∙ ap (λ r. (rep_of (next R) r).deg) o.is_rep

  pub next-stands : Stands T.context T.n m pos (suc i) (next R) (family R)
  next-stands = record {
    column = λ x. wide R (base R x);
    column_below = wide_below R;
    complete = next-complete R;
    represents = next-represents R;
    intertwines = next-intertwines R;
    refers = λ j ij jn r h c l. next-refers R j ij jn r h c;
    nonempty = omega (arith, next-below R (mk R (first R 0) 0 (made_some R (rep R (first R 0)) (rep_below R (first R 0)))));
    degree_pos = next-degree-pos;
    degree_target = next-degree-target;
    squares = next-squares R;
  }

  -- ---- Blocks

  extended-restricts : (s κ : ℕ) → s < N R → Restricts i L (Steps.extension (P R) m i L s κ)
  unfolding Steps.extension
  extended-restricts s κ h = record {
    count = 1;
    width = deg R s;
    part = λ b. s;
    width_pos = stands.degree_pos s h;
    part_below = λ b l. h;
    part_degree = λ b l. refl;
    degree = omega arith;
    refers = λ g l b c a e. extension-base R s κ g l (b * deg R s + c);
    acts = λ k l b c a e.
        let o : b ≡ 0 = omega arith in
        let z : (x : ℕ) → b * deg R s + x ≡ x = λ x. omega (arith, ap (λ x. x * deg R s) o) in
        ap (λ M. col M (b * deg R s + c)) (extension-low R s κ k (omega arith) ∙ cond-lt k i _ _ l) ∙ ap (col ((rep_of L s).matrix k)) (z c)
        ∙ ap (λ x. entry x (col ((rep_of L s).matrix k) c).exp) (sym (z (col ((rep_of L s).matrix k) c).row));
  }

  induced-restricts : (s : ℕ) (h : s < N R) (mv : ¬ (τ R s ≡ s)) (own : leader (O R) s ≡ s) → Restricts i L (Steps.induction (P R) m i L s)
  unfolding Steps.induction Steps.block_diagonal col
  induced-restricts s h mv own = record {
    count = p R;
    width = deg R s;
    part = orb R s h mv own;
    width_pos = stands.degree_pos s h;
    part_below = λ b l. orb-below R s h mv own b;
    part_degree = λ b l. orb-degree R s h mv own b;
    degree = refl;
    refers = λ g l b c a e. induction-base R s g l (b * deg R s + c) ∙ ap (orb R s h mv own) (digits_div b e);
    acts = λ k l b c a e.
        let M : ℕ → Matrix = λ b. (rep_of L (orb R s h mv own b)).matrix k in
        let size : (b : ℕ) → length (M b) ≡ deg R s
        = λ b. (stands.represents k l (orb R s h mv own b) (orb-below R s h mv own b)).size ∙ orb-degree R s h mv own b in
        ap (λ M. col M (b * deg R s + c)) (induction-low R s k (omega arith) ∙ cond-lt k i _ _ l)
        ∙ get_or-even (λ b. Steps.lift (b * deg R s) (M b)) (deg R s) (entry 0 0) (p R) b c (λ b l'. lift-length (b * deg R s) (M b) ∙ size b) a e
        ∙ lift-col (b * deg R s) (M b) c (subst (λ z. c < z) (sym (size b)) e);
  }

  pub next-restricts : (r' : ℕ) → r' < length (next R) → Restricts i L (rep_of (next R) r')
  next-restricts r' h = at_source R (Restricts i L (rep_of (next R) r')) r' h
      (λ e. subst (Restricts i L) (sym e.rep_is) (extended-restricts e.s e.κ e.s_below))
      (λ e. subst (Restricts i L) (sym e.rep_is) (induced-restricts e.s e.s_below e.moved e.own))
