-- The power relation of a level that fits: the scalars of generator i around the blocks undo the defect.
--
--   scalars-undo      they do, from each block on
use mathlib.Core.Path.{◌≡◌, sym, ◌∙◌, ap, ap₂, subst}
use Prim.Native.Nat.{ℕ, zero, suc, ◌<◌}
use native.Mathlib.Nat.{zero-mul}
use native.Mathlib.Omega.{arith}
use Rattle.definitions.specs.declared.Entry.{Entry}
use Rattle.definitions.specs.Lists.{iter}
use Rattle.definitions.specs.Monomial.{Matrix, entry, act, rep_of}
use Rattle.formulas.specs.Formulas as Fm
use Rattle.numbers.proofs.Lists.{iter-zero, iter-suc}
use Rattle.numbers.proofs.Iterates.{iter-out}
use Rattle.group.proofs.Level.{u_nf}
use Rattle.monomial.specs.Exponents.{Exponents, total, Residue}
use Rattle.monomial.proofs.Exponents.{idr, lcomm, cancel, total-zero, total-suc, total_ext}
use Rattle.monomial.proofs.Residues.{residues, Residue-path}
use Rattle.columns.specs.Columns.{power_at}
use Rattle.clifford.proofs.Numbering.{P, p, τ, S, O}
use Rattle.clifford.proofs.Defect.{defect, defect-eq, defect-const, defect-step, X-maps}
use Rattle.clifford.proofs.Extensions.{E, first, first_rep}
use Rattle.fitting.proofs.Parts.{Fitted, Up, fit, count, width, part, turn, part_below, turn-part, turns-below, part-iter, part-one, reach}
use Rattle.fitting.proofs.Spots.{same-exp, scalar, spot, spot-exp, first-spot, walk-spot, turn-spot}

-- ---- A sum over a round, begun one later

module _ {X : Type 0} (𝓔 : Exponents X) (g : ℕ → X) where
  open 𝓔 use {add}

  total-front : (n : ℕ) → add (total 𝓔 (λ l. g (suc l)) n) (g 0) ≡ total 𝓔 g (suc n)
  total-front zero =
      ap (λ s. add s (g 0)) (total-zero 𝓔 (λ l. g (suc l))) ∙ 𝓔.comm _ _ ∙ ap (add (g 0)) (sym (total-zero 𝓔 g)) ∙ sym (total-suc 𝓔 g 0)
  total-front (suc n) =
      ap (λ s. add s (g 0)) (total-suc 𝓔 (λ l. g (suc l)) n) ∙ 𝓔.assoc _ _ _ ∙ ap (add (g (suc n))) (total-front n) ∙ sym (total-suc 𝓔 g (suc n))

  total-round : (n : ℕ) → g n ≡ g 0 → total 𝓔 (λ l. g (suc l)) n ≡ total 𝓔 g n
  total-round n e = cancel 𝓔 (g 0) _ _ (𝓔.comm _ _ ∙ total-front n ∙ total-suc 𝓔 g n ∙ ap (λ s. add s (total 𝓔 g n)) e)

module _ (W : Fitted) (u : Up W) where
  open W use {R, High}
  open W.R use {T, m, pos, i, Ω, F}
  open residues W.R.m W.R.pos use {add, nil}

  -- the scalars that are met from block k on, once around
  abbrev around : ℕ → Residue m
  around k = total (E R) (λ l. scalar W u i (iter (turn W u) l k)) (p R)

  abbrev Undone : ℕ → Type 0
  Undone k = (a : Ω) → F.rep a ≡ part W u k → add (around k) (defect (S R) F a) ≡ nil

  -- ---- Block 0: column 0 is walked

  module _ (h : 0 < count W u) where
    abbrev M : ℕ → Matrix
    M = (rep_of High u.0).matrix

    abbrev a₀ : Ω
    a₀ = first R (part W u 0)

    ra : F.rep a₀ ≡ part W u 0
    ra = first_rep R (part W u 0) (part_below W u 0 h)

    abbrev v : Residue m
    v = (F.d (u_nf T.context i) a₀).1

    abbrev δ : Residue m
    δ = defect (S R) F a₀

    origin : entry 0 0 ≡ spot W u 0 (a₀, nil)
    origin = ap (λ c. entry c 0) (sym (zero-mul (width W u))) ∙ sym (first-spot W u 0)

    left : (iter (act m (M i)) (p R) (entry 0 0)).exp ≡ (add (add (around 0) (add δ v)) nil).0
    left =
        ap (λ (x : Entry). (iter (act m (M i)) (p R) x).exp) origin ∙ ap (λ (x : Entry). x.exp) (turn-spot W u 0 h a₀ ra nil (p R)) ∙ spot-exp W u _ _
        ∙ ap (λ z. (add (add (around 0) z.1) nil).0) (defect-eq (S R) F a₀)

    right : (Fm.walk m M i ((P R).u i) (entry 0 0)).exp ≡ v.0
    unfolding u_nf
    right =
        ap (λ (x : Entry). (Fm.walk m M i ((P R).u i) x).exp) origin ∙ ap (λ (x : Entry). x.exp) (walk-spot W u 0 h a₀ ra (u_nf T.context i))
        ∙ spot-exp W u _ _

    met : add (add (around 0) (add δ v)) nil ≡ v
    unfolding power_at
    met = Residue-path m _ _ (sym left ∙ same-exp _ _ (fit W u).power ∙ right)

    shift : (g d w : Residue m) → add (add g (add d w)) nil ≡ add w (add g d)
    shift g d w = idr (E R) _ ∙ simp ((E R).comm, lcomm (E R))

    undone-zero : Undone 0
    undone-zero a e =
        ap (add (around 0)) (defect-const (S R) F a a₀ (e ∙ sym ra))
        ∙ cancel (E R) v (add (around 0) δ) nil (sym (shift (around 0) δ v) ∙ met ∙ sym (idr (E R) v))

  -- ---- The others

  undone-step : (k : ℕ) → k < count W u → Undone k → Undone (turn W u k)
  undone-step k h c a e =
      let b : Ω = first R (part W u k) in
      let rb : F.rep b ≡ part W u k = first_rep R (part W u k) (part_below W u k h) in
      let g : ℕ → Residue m = λ l. scalar W u i (iter (turn W u) l k) in
      let home : iter (turn W u) (p R) k ≡ k = part-one W u _ k (turns-below W u k (p R) h) h (part-iter W u k (p R) h ∙ (O R).home _ (part_below W u k h)) in
      let same : defect (S R) F a ≡ defect (S R) F b
      = defect-const (S R) F a (F.X i b).0 (e ∙ turn-part W u k h ∙ sym (X-maps (S R) F b ∙ ap (τ R) rb)) ∙ defect-step (S R) F b in
      ap₂ add (total_ext (E R) _ (λ l. g (suc l)) (p R) (λ l a. ap (scalar W u i) (sym (iter-suc (turn W u) l k)))
      ∙ total-round (E R) g (p R) (ap (scalar W u i) (home ∙ sym (iter-zero (turn W u) k)))) same ∙ c b rb

  undone-iter : (l : ℕ) → 0 < count W u → Undone (iter (turn W u) l 0)
  undone-iter zero h = subst Undone (sym (iter-zero (turn W u) 0)) (undone-zero h)
  undone-iter (suc l) h = subst Undone (sym (iter-out (turn W u) l 0)) (undone-step (iter (turn W u) l 0) (turns-below W u 0 l h) (undone-iter l h))

  pub scalars-undo : (k : ℕ) → k < count W u → (a : W.R.Ω) → W.R.F.rep a ≡ part W u k
      → (E W.R).add (total (E W.R) (λ l. scalar W u W.R.i (iter (turn W u) l k)) (p W.R)) (defect (S W.R) W.R.F a) ≡ (E W.R).nil
  scalars-undo k h = let (l, e) = reach W u 0 k (omega arith) h in subst Undone e (undone-iter l (omega arith))
