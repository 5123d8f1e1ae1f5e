-- The steps without searches and without inverses: what a builder computes instead.
--
--   less-back, less-over      differences modulo m
--   last-formula       the last block of an induction is an intertwiner times one scalar
use mathlib.Core.Path.{◌≡◌, sym, ◌∙◌, ap, ap₂, subst}
use Prim.Native.Nat.{ℕ, ◌+◌, ◌-◌, ◌%◌, ◌<◌}
use native.Mathlib.Omega.{arith}
use Rattle.definitions.specs.Lists.{iter}
use Rattle.definitions.specs.Monomial.{col, less, scale, rep_of, image}
use Rattle.definitions.specs.Steps
use Rattle.numbers.proofs.Orbits.{leader, position, iter-below, iter-moved}
use Rattle.group.proofs.Level.{u_nf}
use Rattle.monomial.specs.Exponents.{Residue}
use Rattle.monomial.proofs.Exponents.{neg_of}
use Rattle.monomial.proofs.Residues.{residues, add-value, less-value}
use Rattle.monomial.proofs.Frames.{shows-scale, shown-unique}
use Rattle.monomial.proofs.Schur.{rep-power}
use Rattle.clifford.specs.Stands.{Rung}
use Rattle.clifford.proofs.Numbering.{P, p, N, rep, τ, S, ready, O, orbit-same}
use Rattle.clifford.proofs.Defect.{defect, defect-eq, defect-const, defect-power, X-maps}
use Rattle.clifford.proofs.Top.{Y-at}
use Rattle.clifford.proofs.Scalars.{σ, σ-last}
use Rattle.clifford.proofs.Extensions.{E, Φ, 𝓢, first, first_rep, first-shown, image-shows}
use Rattle.clifford.proofs.Inductions.{along-shows, last-shows, position-of}

module _ (R : Rung) where
  open R use {T, m, pos, i, L, Ω, F, stands}
  open R.stands use {complete}
  open residues m pos use {add, nil, neg}

  -- x + y less y is x
  pub less-back : (x y : Residue m) → less m (add x y).0 y.0 ≡ x.0
  less-back x y = less-value m pos (add x y) y ∙ ap (λ z. z.0) ((E R).assoc x y (neg y) ∙ ap (add x) ((E R).negr y) ∙ (E R).comm _ _ ∙ (E R).idl x)

  -- x less y + x is the negative of y
  pub less-over : (x y : Residue m) → less m x.0 (add y x).0 ≡ (neg y).0
  less-over x y = less-value m pos x (add y x) ∙ ap (λ z. z.0) (neg_of (E R) y _ (sym ((E R).assoc y x _) ∙ (E R).negr (add y x)))

  -- ---- The last block

  module _ (r : ℕ) (h : r < N R) (mv : ¬ (τ R r ≡ r)) (own : leader (O R) r ≡ r) where
    -- the scalar that undoes the defect, from one column
    pub defect-formula : less m (col (image m (rep_of L r) i ((P R).u i)) 0).exp (col (Steps.along (P R) m i L r (p R)) 0).exp
        ≡ ((residues m pos).neg (defect (S R) F (first R r))).0
    unfolding u_nf
    defect-formula =
        ap₂ (less m) (first-shown R h (image-shows R r h (u_nf T.context i)))
        (first-shown R h (along-shows R r h mv own (p R)) ∙ ap (λ z. z.1.0) (defect-eq (S R) F (first R r)))
        ∙ less-over _ _

    pub last-formula : Steps.last_block (P R) m i L r
        ≡ scale m (less m (col (image m (rep_of L r) i ((P R).u i)) 0).exp (col (Steps.along (P R) m i L r (p R)) 0).exp)
        ((rep_of L (Steps.orbit (P R) m i L r (p R - 1))).matrix i)
    last-formula =
        let e : ℕ = p R - 1 in
        let t : ℕ = iter (τ R) e r in
        let k : ℕ = less m (col (image m (rep_of L r) i ((P R).u i)) 0).exp (col (Steps.along (P R) m i L r (p R)) 0).exp in
        -- along the orbit the defect is that of r
        let defect-here : (a : Ω) → rep R a ≡ t → defect (S R) F a ≡ defect (S R) F (first R r) = λ a q.
        defect-const (S R) F a _ (q ∙ sym (rep-power F (τ R) (F.X i) (X-maps (S R) F) e (first R r) ∙ ap (iter (τ R) e) (first_rep R r h)))
        ∙ defect-power (S R) F e (first R r) in
        let σ-here : (a : Ω) → rep R a ≡ t → (σ (S R) m pos F (ready R) (rep R a)).0 ≡ k = λ a q.
        ap (λ z. z.0) (σ-last (S R) m pos F (ready R) (rep R a) (λ f. iter-moved (O R) e r h mv (subst (λ s. τ R s ≡ s) q f))
        (ap (position (O R)) q ∙ position-of R r h mv own e (omega (arith, T.context.two i)))
        ∙ ap neg (defect-const (S R) F _ a (first_rep R (rep R a) (complete.rep_below a)) ∙ defect-here a q)) ∙ sym defect-formula in
        shown-unique m pos (Φ R) complete (iter-below (O R) e r h) (last-shows R r h mv own)
        (shows-scale m pos (Φ R) k (stands.intertwines i (omega arith) R.in_range t (iter-below (O R) e r h)) (λ a q. (
          ap (λ z. z.0) (Y-at (S R) F (𝓢 R) a),
          ap (λ z. z.1.0) (Y-at (S R) F (𝓢 R) a) ∙ add-value m pos _ _ ∙ ap (λ z. ((F.X i a).1.0 + z) % m) (σ-here a q),
        )))
        ∙ ap (λ s. scale m k ((rep_of L s).matrix i)) (sym (orbit-same R r e))
