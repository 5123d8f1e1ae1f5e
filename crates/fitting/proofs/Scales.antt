-- The scalars of generator i by representation of the level below, and the numbers of the representations of a level that fits.
--
--   Some, some                    a block with a property, by search
--   shared                        blocks of one reference are one, but for two representations of one block with other scalars
--   σ, norm, 𝓢, ρ                 the scalar of a reference; they undo the defect; the roots of unity by number
--   number, number_small, number-many      the number of a representation
--   scalar_is                     the scalar of a block is that of its reference times the root of the number
--   same_block                    reference and number tell a block
use mathlib.Core.Path.{◌≡◌, refl, sym, ◌∙◌, ap, ap₂, subst}
use mathlib.Core.Logic.{by_cases}
use Prim.Native.Nat.{ℕ, ◌+◌, ◌*◌, ◌-◌, ◌<◌}
use native.Mathlib.Nat.{zero-mul}
use native.Mathlib.Omega.{arith}
use native.Mathlib.Decide.{dec_lt, ℕ_discrete}
use lib.ListN.{length}
use Rattle.definitions.specs.declared.Entry.{Entry}
use Rattle.definitions.specs.Lists.{iter}
use Rattle.definitions.specs.Monomial.{col, rep_of}
use Rattle.numbers.proofs.Lists.{iter-fix, iter-add}
use Rattle.numbers.proofs.Orbits.{iter-moved}
use Rattle.monomial.specs.Exponents.{total, times, Residue, Parts}
use Rattle.monomial.proofs.Exponents.{idr, lcomm, cancel, total-zero, total_ext, total-add, times-nil}
use Rattle.monomial.proofs.Residues.{residues, unit, unit-p, unit-injective, log, log-below, log-times}
use Rattle.clifford.proofs.Numbering.{N, p, τ, S, O, ready, first_of-column}
use Rattle.clifford.proofs.Defect.{defect}
use Rattle.clifford.proofs.Top.{Normed}
use Rattle.clifford.proofs.Step.{Roots}
use Rattle.clifford.proofs.Scalars as Built
use Rattle.clifford.proofs.Extensions.{E, first, first_rep}
use Rattle.fitting.proofs.Parts.{search, Fitted, Up, up-path, count, width, part, turn, part_below}
use Rattle.fitting.proofs.Parts.{turns-below, part-iter, part-one, one-zero, one-fixed, moved-part}
use Rattle.fitting.proofs.Spots.{scalar, spot-exp, column-high}
use Rattle.fitting.proofs.Round.{scalars-undo}

module _ (W : Fitted) where
  open W use {R, High, fits}
  open W.R use {T, m, pos, i, Ω, F, stands}
  open W.R.stands use {column, complete}
  open residues W.R.m W.R.pos use {add, nil, neg}

  -- ---- Blocks with a property

  -- a block of which Q holds
  pub record Some (Q : (u : Up W) (k : ℕ) → k < count W u → Type 0) : Type 0 where
    pub u : Up W
    pub k : ℕ
    pub l : k < count W u
    pub holds : Q u k l

  pub some : (Q : (u : Up W) (k : ℕ) → k < count W u → Type 0) → ((u : Up W) (k : ℕ) (l : k < count W u) → Dec (Q u k l)) → Dec (Some Q)
  some Q d = go (search (length High) (λ r h. (k : ℕ) × (l : k < count W (r, h)) × Q (r, h) k l)
      (λ r h. search (count W (r, h)) (λ k l. Q (r, h) k l) (λ k l. d (r, h) k l)))
    where
      go : Dec ((r : ℕ) × (h : r < length High) × ((k : ℕ) × (l : k < count W (r, h)) × Q (r, h) k l)) → Dec (Some Q)
      go (yes (r, h, (k, l, q))) = yes (record { u = (r, h); k = k; l = l; holds = q })
      go (no a) = no (λ s. a (s.u.0, s.u.1, (s.k, s.l, s.holds)))

  abbrev Refers : ℕ → (u : Up W) (k : ℕ) → k < count W u → Type 0
  Refers f u k l = part W u k ≡ f

  holder : (f : ℕ) → Dec (Some (Refers f))
  holder f = some (Refers f) (λ u k l. ℕ_discrete (part W u k) f)

  -- ---- Blocks of one reference

  -- generator i in column 0
  exp-zero : (u : Up W) → 0 < count W u → (col ((rep_of High u.0).matrix i) 0).exp ≡ (add (F.X i (first R (part W u 0))).1 (scalar W u i 0)).0
  exp-zero u h =
      let a : Ω = first R (part W u 0) in
      let c : column a ≡ 0 = first_of-column R (part W u 0) (dec_lt (part W u 0) (N R)) in
      let z : 0 ≡ 0 * width W u + column a = omega (arith, zero-mul (width W u)) in
      ap (λ c. (col ((rep_of High u.0).matrix i) c).exp) z
      ∙ ap (λ (x : Entry). x.exp) (column-high W u 0 h a (first_rep R (part W u 0) (part_below W u 0 h)) i (omega arith) R.in_range)
      ∙ spot-exp W u _ _

  abbrev Apart : Up W → Up W → Type 0
  Apart u v = (count W u ≡ 1) × (count W v ≡ 1) × ¬ (scalar W u i 0 ≡ scalar W v i 0)

  shared : (u v : Up W) (k k' : ℕ) → k < count W u → k' < count W v → part W u k ≡ part W v k' → ¬ Apart u v → (u ≡ v) × (k ≡ k')
  shared u v k k' h h' e na = by_cases (ℕ_discrete u.0 v.0)
      (λ q. let s : u ≡ v = up-path W u v q in (s, part-one W u k k' h (subst (λ u. k' < count W u) (sym s) h') (e ∙ ap (λ u. part W u k') (sym s))))
      (λ q.
      let (a, b, ne) = fits.unshared u.0 v.0 u.1 v.1 q k k' h h' e in
      let f : part W u 0 ≡ part W v 0 = ap (part W u) (sym (one-zero W u k a h)) ∙ e ∙ ap (part W v) (one-zero W v k' b h') in
      absurd (na (
        a,
        b,
        λ s. ne (exp-zero u (omega arith) ∙ ap₂ (λ f (t : Residue m). (add (F.X i (first R f)).1 t).0) f s
            ∙ sym (exp-zero v (omega arith))),
      )))

  moved_same : (u v : Up W) (k k' : ℕ) → k < count W u → k' < count W v → part W u k ≡ part W v k'
      → ¬ (τ R (part W u k) ≡ part W u k) → (u ≡ v) × (k ≡ k')
  moved_same u v k k' l l' e mv = shared u v k k' l l' e (λ (a, b, c). mv (one-fixed W u k a l))

  -- ---- Scalars

  -- those of the steps, but for moved references, where the blocks tell them
  abbrev σ₀ : ℕ → Residue m
  σ₀ = Built.σ (S R) m pos F (ready R)

  pick : (f : ℕ) → Dec (τ R f ≡ f) → Dec (Some (Refers f)) → Residue m
  pick f (yes a) d = σ₀ f
  pick f (no a) (yes b) = scalar W b.u i b.k
  pick f (no a) (no b) = σ₀ f

  pub σ : ℕ → Residue W.R.m
  σ f = pick f (ℕ_discrete (τ R f) f) (holder f)

  σ-fixed : (f : ℕ) → τ R f ≡ f → σ f ≡ σ₀ f
  unfolding σ pick
  σ-fixed f e = go (ℕ_discrete (τ R f) f)
    where
      go : (d : Dec (τ R f ≡ f)) → pick f d (holder f) ≡ σ₀ f
      go (yes a) = refl
      go (no a) = absurd (a e)

  σ-none : (f : ℕ) → ¬ (Some (Refers f)) → σ f ≡ σ₀ f
  unfolding σ pick
  σ-none f e = go (ℕ_discrete (τ R f) f) (holder f)
    where
      go : (d : Dec (τ R f ≡ f)) (b : Dec (Some (Refers f))) → pick f d b ≡ σ₀ f
      go (yes a) b = refl
      go (no a) (yes b) = absurd (e b)
      go (no a) (no b) = refl

  σ-part : (u : Up W) (k : ℕ) → k < count W u → ¬ (τ R (part W u k) ≡ part W u k) → σ (part W u k) ≡ scalar W u i k
  unfolding σ pick
  σ-part u k l mv = go (ℕ_discrete (τ R (part W u k)) (part W u k)) (holder (part W u k))
    where
      go : (d : Dec (τ R (part W u k) ≡ part W u k)) (b : Dec (Some (Refers (part W u k)))) → pick (part W u k) d b ≡ scalar W u i k
      go (yes a) b = absurd (mv a)
      go (no a) (yes b) = let (e, f) = moved_same u b.u k b.k l b.l (sym b.holds) mv in ap₂ (λ u k. scalar W u i k) (sym e) (sym f)
      go (no a) (no b) = absurd (b (record { u = u; k = k; l = l; holds = refl }))

  -- ---- They undo the defect

  module _ (a : W.R.Ω) where
    abbrev f : ℕ
    f = F.rep a

    f-below : f < N R
    f-below = complete.rep_below a

    abbrev δ : Residue m
    δ = defect (S R) F a

    -- where nothing is told by blocks
    as-built : ((k : ℕ) → k < p R → σ (iter (τ R) k f) ≡ σ₀ (iter (τ R) k f)) → add (total (E R) (λ k. σ (iter (τ R) k f)) (p R)) δ ≡ nil
    as-built h = ap (λ s. add s δ) (total_ext (E R) _ (λ k. σ₀ (iter (τ R) k f)) (p R) h) ∙ Built.norm (S R) m pos F (ready R) a

    -- a block of a reference on the orbit leads to one of f
    back : (k : ℕ) → k < p R → Some (Refers (iter (τ R) k f)) → Some (Refers f)
    back k l s =
        let e : k + (p R - k) ≡ p R = omega arith in
        record {
          u = s.u;
          k = iter (turn W s.u) (p R - k) s.k;
          l = turns-below W s.u s.k (p R - k) s.l;
          holds = part-iter W s.u s.k (p R - k) s.l ∙ ap (iter (τ R) (p R - k)) s.holds ∙ iter-add (τ R) k (p R - k) f
              ∙ ap (λ z. iter (τ R) z f) e ∙ (O R).home f f-below;
        }

    -- along the blocks of f
    along : ¬ (τ R f ≡ f) → (b : Some (Refers f)) (k : ℕ) → σ (iter (τ R) k f) ≡ scalar W b.u i (iter (turn W b.u) k b.k)
    along mv b k =
        let e : part W b.u (iter (turn W b.u) k b.k) ≡ iter (τ R) k f = part-iter W b.u b.k k b.l ∙ ap (iter (τ R) k) b.holds in
        ap σ (sym e) ∙ σ-part b.u _ (turns-below W b.u b.k k b.l) (subst (λ s. ¬ (τ R s ≡ s)) (sym e) (iter-moved (O R) k f f-below mv))

    pub norm : (E W.R).add (total (E W.R) (λ k. σ (iter (τ W.R) k (W.R.F.rep a))) (p W.R)) (defect (S W.R) W.R.F a) ≡ (E W.R).nil
    norm = go (ℕ_discrete (τ R f) f) (holder f)
      where
        go : Dec (τ R f ≡ f) → Dec (Some (Refers f)) → add (total (E R) (λ k. σ (iter (τ R) k f)) (p R)) δ ≡ nil
        go (yes e) d = as-built (λ k l. σ-fixed (iter (τ R) k f) (subst (λ s. τ R s ≡ s) (sym (iter-fix (τ R) f e k)) e))
        go (no mv) (yes b) = ap (λ s. add s δ) (total_ext (E R) _ _ (p R) (λ k l. along mv b k)) ∙ scalars-undo W b.u b.k b.l a (sym b.holds)
        go (no mv) (no nb) = as-built (λ k l. σ-none (iter (τ R) k f) (λ s. nb (back k l s)))

  -- as a step takes them
  abbrev pub 𝓢 : Normed (S W.R) W.R.F
  𝓢 = record { σ = σ; norm = norm }

  abbrev pub parts : Parts W.R.m
  parts = Built.parts (S W.R) W.R.m W.R.pos W.R.F (ready W.R)

  abbrev pub ε : Residue W.R.m
  ε = unit W.R.m W.R.pos parts

  abbrev pub ρ : Roots (S W.R) W.R.F 𝓢
  ρ = record { ε = ε; ε-p = unit-p W.R.m W.R.pos parts; ε-injective = unit-injective W.R.m W.R.pos parts }

  -- ---- Numbers

  -- what the scalar of one block is over that of its reference
  excess : Up W → Residue m
  excess u = add (scalar W u i 0) (neg (σ (part W u 0)))

  number_by : (u : Up W) → Dec (count W u ≡ 1) → ℕ
  number_by u (yes e) = log m pos parts (excess u)
  number_by u (no e) = 0

  -- the power of ε that the excess is; with several blocks there is none
  pub number : Up W → ℕ
  number u = number_by u (ℕ_discrete (count W u) 1)

  number-one : (u : Up W) → count W u ≡ 1 → number u ≡ log m pos parts (excess u)
  unfolding number number_by
  number-one u e = go (ℕ_discrete (count W u) 1)
    where
      go : (d : Dec (count W u ≡ 1)) → number_by u d ≡ log m pos parts (excess u)
      go (yes a) = refl
      go (no a) = absurd (a e)

  pub number-many : (u : Up W) → ¬ (count W u ≡ 1) → number u ≡ 0
  unfolding number number_by
  number-many u e = go (ℕ_discrete (count W u) 1)
    where
      go : (d : Dec (count W u ≡ 1)) → number_by u d ≡ 0
      go (yes a) = absurd (e a)
      go (no a) = refl

  pub number_small : (u : Up W) → number u < p W.R
  number_small u = by_cases (ℕ_discrete (count W u) 1)
      (λ e. subst (λ z. z < p R) (sym (number-one u e)) (log-below m pos parts (excess u)))
      (λ e. subst (λ z. z < p R) (sym (number-many u e)) (omega (arith, T.context.two i)))

  -- p times the scalar of one block, and p times that of its reference, both undo the defect
  module _ (u : Up W) (e : count W u ≡ 1) where
    abbrev s : Residue m
    s = σ (part W u 0)

    abbrev t : Residue m
    t = scalar W u i 0

    only : 0 < count W u
    only = omega arith

    abbrev a₀ : Ω
    a₀ = first R (part W u 0)

    ra : F.rep a₀ ≡ part W u 0
    ra = first_rep R (part W u 0) (part_below W u 0 only)

    block-undoes : add (times (E R) (p R) t) (defect (S R) F a₀) ≡ nil
    block-undoes =
        ap (λ z. add z (defect (S R) F a₀)) (total_ext (E R) (λ k. t) (λ k. scalar W u i (iter (turn W u) k 0)) (p R)
        (λ k h. ap (scalar W u i) (sym (one-zero W u (iter (turn W u) k 0) e (turns-below W u 0 k only)))))
        ∙ scalars-undo W u 0 only a₀ ra

    reference-undoes : add (times (E R) (p R) s) (defect (S R) F a₀) ≡ nil
    reference-undoes =
        ap (λ z. add z (defect (S R) F a₀)) (total_ext (E R) (λ k. s) (λ k. σ (iter (τ R) k (F.rep a₀))) (p R)
        (λ k h. ap σ (sym (ap (iter (τ R) k) ra ∙ iter-fix (τ R) (part W u 0) (one-fixed W u 0 e only) k))))
        ∙ norm a₀

    same-times : times (E R) (p R) t ≡ times (E R) (p R) s
    same-times = cancel (E R) (defect (S R) F a₀) _ _ ((E R).comm _ _ ∙ block-undoes ∙ sym reference-undoes ∙ (E R).comm _ _)

    excess-root : times (E R) (p R) (excess u) ≡ nil
    unfolding excess
    excess-root =
        total-add (E R) (λ k. t) (λ k. neg s) (p R) ∙ ap (λ z. add z (times (E R) (p R) (neg s))) same-times
        ∙ sym (total-add (E R) (λ k. s) (λ k. neg s) (p R)) ∙ ap (times (E R) (p R)) ((E R).negr s) ∙ times-nil (E R) (p R)

    over : (s x : Residue m) → add s (add x (neg s)) ≡ x
    over s x = lcomm (E R) s x (neg s) ∙ ap (add x) ((E R).negr s) ∙ idr (E R) x

    scalar-one : t ≡ add s (times (E R) (number u) ε)
    unfolding excess
    scalar-one = sym (ap (add s) (ap (λ k. times (E R) k ε) (number-one u e) ∙ log-times m pos parts (excess u) excess-root) ∙ over s t)

  pub scalar_is : (u : Up W) (k : ℕ) → k < count W u → scalar W u W.R.i k ≡ (E W.R).add (σ (part W u k)) (times (E W.R) (number u) ε)
  scalar_is u k l = by_cases (ℕ_discrete (count W u) 1)
      (λ e. subst (λ k. scalar W u i k ≡ add (σ (part W u k)) (times (E R) (number u) ε)) (sym (one-zero W u k e l)) (scalar-one u e))
      (λ e. sym (ap₂ add (σ-part u k l (moved-part W u e k l)) (ap (λ k. times (E R) k ε) (number-many u e) ∙ total-zero (E R) (λ k. ε)) ∙ idr (E R) _))

  pub same_block : (u v : Up W) (k k' : ℕ) → k < count W u → k' < count W v → part W u k ≡ part W v k' → number u ≡ number v → (u ≡ v) × (k ≡ k')
  same_block u v k k' l l' e n =
      let one : scalar W u i k ≡ scalar W v i k' = scalar_is u k l ∙ ap₂ (λ f κ. add (σ f) (times (E R) κ ε)) e n ∙ sym (scalar_is v k' l') in
      shared u v k k' l l' e (λ (a, b, c). c (ap (scalar W u i) (sym (one-zero W u k a l)) ∙ one ∙ ap (scalar W v i) (one-zero W v k' b l')))
