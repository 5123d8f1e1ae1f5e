-- The scalars of an intertwiner along an orbit that moves, by closed formulas.
--
--   leader-of, position-of      leaders and positions of the formulas are those of the family
--   right-same                  the right side of the equation that forces the scalars
--   scalar-same, scalars        the scalars are those of the steps
use mathlib.Core.Path.{◌≡◌, refl, sym, ◌∙◌, ap, ap₂, subst, fun_ext}
use Prim.Native.Nat.{ℕ, zero, suc, ◌+◌, ◌*◌, ◌<◌}
use native.Mathlib.Nat.{mod-lt}
use native.Mathlib.Omega.{arith}
use lib.Dec.{eqb}
use Rattle.definitions.specs.declared.Entry.{Entry}
use Rattle.definitions.specs.Lists.{iter, least}
use Rattle.definitions.specs.Monomial.{Matrix, entry, col, less, act, rep_of}
use Rattle.definitions.specs.Steps
use Rattle.formulas.specs.Formulas as Fm
use Rattle.numbers.proofs.Orbits.{leader_of, position_of, leader, position, iter-below, leader-below, leader-leader, leader-moved}
use Rattle.monomial.specs.Frames.{Shows}
use Rattle.monomial.proofs.Residues.{less-mod}
use Rattle.clifford.specs.Stands.{Rung}
use Rattle.clifford.proofs.Numbering.{P, p, N, deg, rep, τ, S, O, target_same}
use Rattle.clifford.proofs.Top.{Y}
use Rattle.clifford.proofs.Extensions.{Φ, 𝓢, first, first_rep}
use Rattle.clifford.proofs.Next.{target_below, target-moved, target-orbit}
use Rattle.clifford.proofs.Intertwiners.{member_of, at_block, right-shows}
use Rattle.agreement.proofs.Entries.{Sc, Z, stand, act-shows, origin, origin-rep, origin-stands, origin-moves, move-pair, stand-exp, turn-same}
use Rattle.agreement.proofs.Induced.{plus-shows, left-same, block_is, block_same}

module _ (R : Rung) where
  open R use {T, m, pos, i, L, F, stands}

  pub leader-of : (r : ℕ) → Fm.leader (Sc R) r ≡ leader (O R) r
  unfolding leader
  leader-of r = ap (λ t. leader_of (N R) (p R) t r) (target_same R i)

  pub position-of : (r : ℕ) → Fm.position (Sc R) r ≡ position (O R) r
  unfolding position
  position-of r = ap (λ t. position_of (N R) (p R) t r) (target_same R i)

  module _ (r : ℕ) (h : r < N R) (mv : ¬ (τ R r ≡ r)) (own : leader (O R) r ≡ r) (j : ℕ) (ij : i < j) (jn : j < T.n) where
    -- the orbit to which generator j maps
    abbrev s : ℕ
    s = leader (O R) (F.target j r)

    right-same : (b : ℕ) → b < p R → Fm.right_at (Sc R) j r b ≡ (col (Steps.right_side (P R) m i L j r) (b * deg R r)).exp
    unfolding Fm.right_at member_of
    right-same b l =
        let t : ℕ = iter (τ R) b r in
        let ht : t < N R = iter-below (O R) b r h in
        let z : Z R = F.X j (first R t) in
        let Xj : Shows m (Φ R) t (F.target j t) ((rep_of L t).matrix j) (F.X j) = stands.intertwines j (omega arith) jn t ht in
        let rz : rep R z.0 ≡ F.target j t = Xj.maps_to (first R t) (first_rep R t ht) in
        let below : F.target j r < N R = target_below R j ij jn r h in
        let in-s : leader (O R) (rep R z.0) ≡ s = ap (leader (O R)) rz ∙ target-orbit R j ij jn b r h mv in
        let moved-s : ¬ (τ R s ≡ s) = leader-moved (O R) _ below (target-moved R j ij jn r h mv) in
        let shown = plus-shows R s (leader-below (O R) _ below) moved-s (leader-leader (O R) _ below) z in-s in
        let right_of : ℕ → ℕ = λ u.
        let q : ℕ = (rep_of L u).ref j 0 in
        (Fm.plus m (Fm.shift_of (Sc R) (Fm.leader (Sc R) q) (Fm.position (Sc R) q))
        (act m ((rep_of L q).matrix i) (act m ((rep_of L u).matrix j) (entry 0 0)))).exp in
        let moved-origin : act m ((rep_of L t).matrix j) (entry 0 0) ≡ stand R z
        = ap (act m ((rep_of L t).matrix j)) (sym (origin-stands R t)) ∙ act-shows R Xj (origin R t) (origin-rep R t ht)
        ∙ ap (stand R) (origin-moves R (F.X j) t) in
        ap (λ u. right_of u) (turn-same R r b)
        ∙ ap₂ (λ q x. (Fm.plus m (Fm.shift_of (Sc R) (Fm.leader (Sc R) q) (Fm.position (Sc R) q)) (act m ((rep_of L q).matrix i) x)).exp) (sym (R.literal j t) ∙ sym rz) moved-origin
        ∙ ap₂ (λ a c. (Fm.plus m (Fm.shift_of (Sc R) a c) (act m ((rep_of L (rep R z.0)).matrix i) (stand R z))).exp) (leader-of (rep R z.0) ∙ in-s) (position-of (rep R z.0))
        ∙ ap (λ (x : Entry). x.exp) shown ∙ stand-exp R _ ∙ ap (λ y. y.1.0) (move-pair R (Y (S R) F (𝓢 R)) (F.X j) (first R t))
        ∙ sym (ap (λ (x : Entry). x.exp) (at_block R j ij jn r h mv own (right-shows R j ij jn r h mv own) b l))

    pub scalar-same : (t : ℕ) → Fm.scalar_at (Sc R) j r t ≡ Steps.scalar_after (P R) m i L j r t
    unfolding Fm.scalar_at Steps.scalar_after
    scalar-same zero = refl
    scalar-same (suc t) =
        let b : ℕ = Fm.block_at (Sc R) j r t in
        let l : b < p R = subst (λ k. k < p R) (sym (block_is R r h mv own j ij jn t)) (mod-lt _ (omega (arith, T.context.two i))) in
        let side : Matrix → ℕ → ℕ = λ M k. (col M (k * deg R r)).exp in
        sym (less-mod m pos _ _)
        ∙ ap₂ (λ x y. less m (Fm.scalar_at (Sc R) j r t + x) y) (right-same b l) (left-same R r h mv own j ij jn b l)
        ∙ ap₂ (λ x k. less m (x + side (Steps.right_side (P R) m i L j r) k) (side (Steps.left_side (P R) m i L j r) k)) (scalar-same t) (block_same R r h mv own j ij jn t)

    pub scalars : (b : ℕ) → Fm.scalar (Sc R) j r b ≡ Steps.c (P R) m i L j r b
    unfolding Fm.scalar Steps.c
    scalars b = ap (λ (f : ℕ → ℕ). Fm.scalar_at (Sc R) j r (least (p R) (λ t. eqb (f t) b))) (fun_ext (block_same R r h mv own j ij jn))
        ∙ scalar-same (least (p R) (λ t. eqb (Steps.block_after (P R) m i L j r t) b))
