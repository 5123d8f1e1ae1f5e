-- The next level of the steps stands on the family of the next level.
--
--   shows-above                 what shows a map of the orbits shows a map of the next level above it
--   at_source                   the representation of a number, by the one that gives it
--   next-represents, next-intertwines, next-refers      its matrices and references
use mathlib.Core.Path.{◌≡◌, refl, sym, ◌∙◌, ap, subst}
use mathlib.Core.Logic.{by_cases}
use Prim.Native.Nat.{ℕ, suc, ◌+◌, ◌/◌, ◌≤◌, ◌<◌}
use native.Mathlib.Omega.{arith}
use native.Mathlib.Decide.{ℕ_discrete}
use lib.Dec.{leb}
use lib.ListN.{length}
use borrow.Author.Tests.{le-leb, lt-leb}
use Rattle.definitions.specs.Lists.{sum}
use Rattle.definitions.specs.Monomial.{Matrix, entry, col, Rep, rep_of}
use Rattle.definitions.specs.Steps
use Rattle.numbers.proofs.Bools.{cond-true, cond-false}
use Rattle.numbers.proofs.Sums.{stretch-one}
use Rattle.numbers.proofs.Orbits.{leader}
use Rattle.group.specs.Context.{Nf}
use Rattle.group.proofs.Level.{gen_nf}
use Rattle.monomial.specs.Exponents.{Residue}
use Rattle.monomial.specs.Maps.{Map}
use Rattle.monomial.specs.Frames.{Shows}
use Rattle.monomial.proofs.Exponents.{idr}
use Rattle.monomial.proofs.Maps.{pair}
use Rattle.clifford.specs.Stands.{Rung}
use Rattle.clifford.proofs.Numbering.{P, p, N, deg, rep, τ, S, ready, O, made, next, made-fixed, made-leader, given-fixed, given-moved, source}
use Rattle.clifford.proofs.Indices.{Index, base, number, next-rep, wide, rep-of-fixed, next-frame}
use Rattle.clifford.proofs.Top.{raised}
use Rattle.clifford.proofs.Step.{numbered, numbered-zero}
use Rattle.clifford.proofs.Scalars.{c, c-fixed}
use Rattle.clifford.proofs.Extensions.{E, 𝓢, ρ, base-shows}
use Rattle.clifford.proofs.Next.{target_below, target_fixed, next-d, mapped, next-X, next-X-is, next-target, family}
use Rattle.clifford.proofs.Inductions.{Ψ, spread, spread-fixed, spread-moved, fixed-spreads, induced-shows}
use Rattle.clifford.proofs.Intertwiners.{mapped-shows}

module _ (R : Rung) where
  open R use {T, m, pos, i, L, Ω, F, stands}
  open T use {context as C}

  -- ---- From the orbits to the next level

  -- an entry of the next level, below
  abbrev above : Index R × Residue R.m → Ω × Residue R.m
  above z = (base R z.0, z.1)

  shows-above : (s t κ r' t' k : ℕ) {M : Matrix} (A : Map (E R) Ω) (A' : Map (E R) (Index R)) → κ < made R s → sum s (made R) + κ ≡ r'
      → (rep_of (next R) r').matrix k ≡ M → Shows m (Ψ R) s t M A → spread R s ≡ (rep_of (next R) r').deg
      → ((x : Index R) → leader (O R) (rep R (base R x)) ≡ s → number R x ≡ κ → above (A' x) ≡ A (base R x))
      → ((x : Index R) → next-rep R x ≡ r' → next-rep R (A' x).0 ≡ t') → Shows m (next-frame R) r' t' ((rep_of (next R) r').matrix k) A'
  unfolding next-rep
  shows-above s t κ r' t' k A A' l is mt sh dg lies ld = record {
    size = ap length mt ∙ sh.size ∙ dg;
    maps_to = ld;
    shown = λ x e.
        let (a, b) = stretch-one (made R) (leader (O R) (rep R (base R x))) (number R x) s κ x.1 l (e ∙ sym is) in
        ap (λ M. col M (wide R (base R x))) mt ∙ sh.shown (base R x) a ∙ ap (λ z. entry (wide R z.0) z.1.0) (sym (lies x a b));
  }

  -- the representation of a number: an extension of a fixed one, or an induction of an orbit
  pub record Extended (r' : ℕ) : Type 0 where
    pub s : ℕ
    pub κ : ℕ
    pub s_below : s < N R
    pub κ-below : κ < made R s
    pub κ-small : κ < p R
    pub is : sum s (made R) + κ ≡ r'
    pub fixed : τ R s ≡ s
    pub rep_is : rep_of (next R) r' ≡ Steps.extension (P R) m i L s κ

  pub record Induced (r' : ℕ) : Type 0 where
    pub s : ℕ
    pub s_below : s < N R
    pub κ-below : 0 < made R s
    pub is : sum s (made R) + 0 ≡ r'
    pub moved : ¬ (τ R s ≡ s)
    pub own : leader (O R) s ≡ s
    pub rep_is : rep_of (next R) r' ≡ Steps.induction (P R) m i L s

  pub at_source : (Q : Type 0) (r' : ℕ) → r' < length (next R) → (Extended r' → Q) → (Induced r' → Q) → Q
  at_source Q r' h ext ind =
      let o = source R r' h in
      by_cases (ℕ_discrete (τ R o.s) o.s) (λ f.
      let l : o.κ < p R = subst (λ z. o.κ < z) (made-fixed R o.s f) o.κ-below in
      ext (record {
        s = o.s;
        κ = o.κ;
        s_below = o.s_below;
        κ-below = o.κ-below;
        κ-small = l;
        is = o.is;
        fixed = f;
        rep_is = ap (rep_of (next R)) (sym o.is) ∙ given-fixed R o.s o.κ o.s_below f l;
      })) (λ f.
      let l : o.κ < 1 = subst (λ z. o.κ < z) (made-leader R o.s f o.own) o.κ-below in
      let z : o.κ ≡ 0 = omega arith in
      let is : sum o.s (made R) + 0 ≡ r' = ap (λ κ. sum o.s (made R) + κ) (sym z) ∙ o.is in
      ind (record {
        s = o.s;
        s_below = o.s_below;
        κ-below = subst (λ κ. κ < made R o.s) z o.κ-below;
        is = is;
        moved = f;
        own = o.own;
        rep_is = ap (rep_of (next R)) (sym is) ∙ given-moved R o.s 0 o.s_below f o.own refl;
      }))

  -- ---- Matrices and references by their generator

  module _ (s κ : ℕ) where
    pub extension-low : (k : ℕ) → k < suc i → (Steps.extension (P R) m i L s κ).matrix k ≡ (Steps.extension_base (P R) m i L s κ).matrix k
    unfolding Steps.extension
    extension-low k l = cond-true (leb k i) _ _ (le-leb k i (omega arith))

    pub extension-up : (j : ℕ) → suc i ≤ j → (Steps.extension (P R) m i L s κ).matrix j ≡ (rep_of L s).matrix j
    unfolding Steps.extension
    extension-up j l = cond-false (leb j i) _ _ (lt-leb j i l)

    pub extension-refers : (j : ℕ) → suc i ≤ j → (k : ℕ) → (Steps.extension (P R) m i L s κ).ref j k ≡ (Steps.extension (P R) m i L s κ).ref j 0
    unfolding Steps.extension
    extension-refers j l k = refl

    pub extension-base : (g : ℕ) → g < suc i → (k : ℕ) → (Steps.extension (P R) m i L s κ).ref g k ≡ s
    unfolding Steps.extension
    extension-base g l k = cond-true (leb g i) _ _ (le-leb g i (omega arith))

  module _ (s : ℕ) where
    pub induction-low : (k : ℕ) → k < suc i → (Steps.induction (P R) m i L s).matrix k ≡ (Steps.induction_base (P R) m i L s).matrix k
    unfolding Steps.induction
    induction-low k l = cond-true (leb k i) _ _ (le-leb k i (omega arith))

    pub induction-up : (j : ℕ) → suc i ≤ j → (Steps.induction (P R) m i L s).matrix j ≡ Steps.block_intertwiner (P R) m i L j s (Steps.c (P R) m i L j s)
    unfolding Steps.induction
    induction-up j l = cond-false (leb j i) _ _ (lt-leb j i l)

    pub induction-refers : (j : ℕ) → suc i ≤ j → (k : ℕ) → (Steps.induction (P R) m i L s).ref j k ≡ (Steps.induction (P R) m i L s).ref j 0
    unfolding Steps.induction
    induction-refers j l k = cond-false (leb j i) _ _ (lt-leb j i l) ∙ sym (cond-false (leb j i) _ _ (lt-leb j i l))

    pub induction-base : (g : ℕ) → g < suc i → (k : ℕ) → (Steps.induction (P R) m i L s).ref g k ≡ Steps.orbit (P R) m i L s (k / deg R s)
    unfolding Steps.induction
    induction-base g l k = cond-true (leb g i) _ _ (le-leb g i (omega arith))

  module _ (r' : ℕ) where
    extended-degree : (e : Extended r') → spread R e.s ≡ (rep_of (next R) r').deg
    unfolding Steps.extension
    extended-degree e = spread-fixed R e.s e.fixed ∙ ap (λ (D : Rep). D.deg) (sym e.rep_is)

    induced-degree : (e : Induced r') → spread R e.s ≡ (rep_of (next R) r').deg
    unfolding Steps.induction
    induced-degree e = spread-moved R e.s e.moved ∙ ap (λ (D : Rep). D.deg) (sym e.rep_is)

  -- what the maps of the next level lie above
  d-above : (g : Nf C (suc i)) (κ : ℕ) (x : Index R) → number R x ≡ κ → above (next-d R g x) ≡ raised (S R) F (numbered (S R) F (𝓢 R) (ρ R) κ) g (base R x)
  unfolding next-d
  d-above g κ x b = ap (λ κ. raised (S R) F (numbered (S R) F (𝓢 R) (ρ R) κ) g (base R x)) b

  -- ---- Generators of the level

  pub next-represents : (k : ℕ) → k < suc i → (r' : ℕ) → r' < length (next R)
      → Shows m (next-frame R) r' r' ((rep_of (next R) r').matrix k) ((family R).d (gen_nf T.context (suc i) k))
  next-represents k l r' h =
      let g : Nf C (suc i) = gen_nf C (suc i) k in
      at_source (Shows m (next-frame R) r' r' ((rep_of (next R) r').matrix k) ((family R).d g)) r' h
      (λ e. shows-above e.s e.s e.κ r' r' k (raised (S R) F (numbered (S R) F (𝓢 R) (ρ R) e.κ) g) ((family R).d g) e.κ-below e.is
      (ap (λ (D : Rep). D.matrix k) e.rep_is ∙ extension-low e.s e.κ k l)
      (fixed-spreads R e.fixed e.s_below e.fixed (base-shows R e.s e.κ e.s_below e.fixed k l)) (extended-degree r' e)
      (λ x a b. d-above g e.κ x b) (λ x q. (family R).inside g x ∙ q))
      (λ e. shows-above e.s e.s 0 r' r' k (raised (S R) F (𝓢 R) g) ((family R).d g) e.κ-below e.is
      (ap (λ (D : Rep). D.matrix k) e.rep_is ∙ induction-low e.s k l)
      (induced-shows R e.s e.s_below e.moved e.own k l) (induced-degree r' e)
      (λ x a b. d-above g 0 x b ∙ ap (λ f. f g (base R x)) (numbered-zero (S R) F (𝓢 R) (ρ R))) (λ x q. (family R).inside g x ∙ q))

  -- ---- Generators above

  module _ (j : ℕ) (ij : suc i ≤ j) (jn : j < T.n) where
    scaled : Map (E R) Ω
    scaled a = ((F.X j a).0, (E R).add (F.X j a).1 (c (S R) m pos F (ready R) j ij jn (rep R a)))

    pub next-intertwines : (r' : ℕ) → r' < length (next R) → Shows m (next-frame R) r' (next-target R j r') ((rep_of (next R) r').matrix j) (next-X R j)
    unfolding scaled mapped
    next-intertwines r' h =
        let t' : ℕ = next-target R j r' in
        let A' : Map (E R) (Index R) = mapped R j ij jn in
        let maps_to : (x : Index R) → next-rep R x ≡ r' → next-rep R (A' x).0 ≡ t'
        = λ x e. ap (λ f. next-rep R (f x).0) (sym (next-X-is R j ij jn)) ∙ (family R).maps_to j ij jn x ∙ ap (next-target R j) e in
        subst (λ (f : Map (E R) (Index R)). Shows m (next-frame R) r' t' ((rep_of (next R) r').matrix j) f) (sym (next-X-is R j ij jn))
        (at_source (Shows m (next-frame R) r' t' ((rep_of (next R) r').matrix j) A') r' h
        (λ e. shows-above e.s (F.target j e.s) e.κ r' t' j (F.X j) A' e.κ-below e.is
        (ap (λ (D : Rep). D.matrix j) e.rep_is ∙ extension-up e.s e.κ j ij)
        (fixed-spreads R e.fixed (target_below R j ij jn e.s e.s_below) (target_fixed R j ij jn e.s e.s_below e.fixed)
        (stands.intertwines j (omega arith) jn e.s e.s_below)) (extended-degree r' e)
        (λ x a b. pair (E R) refl (ap ((E R).add (F.X j (base R x)).1) (c-fixed (S R) m pos F (ready R) j ij jn (rep R (base R x))
        (subst (λ s. τ R s ≡ s) (sym (rep-of-fixed R (base R x) e.s a e.fixed)) e.fixed)) ∙ idr (E R) _)) maps_to)
        (λ e. shows-above e.s (leader (O R) (F.target j e.s)) 0 r' t' j scaled A' e.κ-below e.is
        (ap (λ (D : Rep). D.matrix j) e.rep_is ∙ induction-up e.s j ij)
        (mapped-shows R j ij jn e.s e.s_below e.moved e.own (λ a q. refl)) (induced-degree r' e) (λ x a b. refl) maps_to))

    pub next-refers : (r' : ℕ) → r' < length (next R) → (k : ℕ) → (rep_of (next R) r').ref j k ≡ next-target R j r'
    next-refers r' h k = at_source ((rep_of (next R) r').ref j k ≡ next-target R j r') r' h
        (λ e. ap (λ (D : Rep). D.ref j k) e.rep_is ∙ extension-refers e.s e.κ j ij k ∙ ap (λ (D : Rep). D.ref j 0) (sym e.rep_is))
        (λ e. ap (λ (D : Rep). D.ref j k) e.rep_is ∙ induction-refers e.s j ij k ∙ ap (λ (D : Rep). D.ref j 0) (sym e.rep_is))
