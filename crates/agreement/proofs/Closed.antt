-- On a level that stands the closed formulas give the next level of the steps: the same lines.
--
--   extension-matrix, extension-ref      extensions
--   induction-matrix, induction-ref      inductions
--   by-formulas                          the level of the formulas agrees with that of the steps
--   same-words                           and has its lines
use mathlib.Core.Path.{◌≡◌, refl, sym, ◌∙◌, ap, ap₂, subst}
use mathlib.Core.Logic.{by_cases}
use mathlib.Core.Bool.{cond}
use mathlib.Core.List.{◌++◌, map}
use Prim.Native.Nat.{ℕ, suc, ◌+◌, ◌*◌, ◌-◌, ◌/◌, ◌%◌, ◌<◌}
use native.Mathlib.Omega.{arith}
use native.Mathlib.Decide.{dec_lt}
use lib.Dec.{leb}
use lib.ListN.{length, get_or, length-map}
use lib.Seq.{ext_get_or}
use Rattle.definitions.specs.declared.Entry.{Entry}
use Rattle.definitions.specs.Lists.{blocks, sum}
use Rattle.definitions.specs.Monomial.{Matrix, entry, col, scale, Rep, Level, rep_of, no_rep}
use Rattle.definitions.specs.Table.{level_words}
use Rattle.definitions.specs.Steps
use Rattle.formulas.specs.Formulas as Fm
use Rattle.formulas.specs.Formulas.{source_of}
use Rattle.numbers.proofs.Bools.{compared, cond-lt, cond-ge, cond-eq, cond-ne}
use Rattle.numbers.proofs.Blocks.{get_d_map, get_or-table, blocks-suc, blocks-below}
use Rattle.numbers.proofs.Orbits.{leader}
use Rattle.monomial.proofs.Frames.{entry-path}
use Rattle.clifford.specs.Stands.{Rung}
use Rattle.clifford.proofs.Numbering.{P, p, N, deg, τ, O, made, next, next-length}
use Rattle.clifford.proofs.Extensions.{s-is}
use Rattle.clifford.proofs.Inductions.{orb, orb-below}
use Rattle.clifford.proofs.Formulas.{defect-formula, last-formula}
use Rattle.clifford.proofs.Rise.{Extended, Induced, at_source, extension-low, extension-up, induction-low, induction-up, next-represents, next-intertwines}
use Rattle.clifford.proofs.Lines.{Agrees}
use Rattle.clifford.proofs.Agreement.{agree-words}
use Rattle.agreement.proofs.Entries.{Sc, shift_is}
use Rattle.agreement.proofs.Extended.{scale-zero, landing_is, start-same}
use Rattle.agreement.proofs.Scalar.{leader-of, scalars}
use Rattle.agreement.proofs.Sources.{level-length, level-at, not-above}

lift-zero : (k : ℕ) (M : Matrix) → k ≡ 0 → Steps.lift k M ≡ M
unfolding Steps.lift
lift-zero k M e = ext_get_or (entry 0 0) (map (λ (x : Entry). entry (k + x.row) x.exp) M) M (length-map M _) (λ c l.
    let a : c < length M = subst (λ z. c < z) (length-map M _) l in
    get_d_map (λ (x : Entry). entry (k + x.row) x.exp) M c (entry 0 0) (entry 0 0) a ∙ entry-path (ap (λ z. z + (get_or M c (entry 0 0)).row) e ∙ omega arith) refl)

module _ (R : Rung) where
  open R use {T, m, i, L, stands}

  -- ---- Extensions

  module _ (s κ : ℕ) (h : s < N R) (f : τ R s ≡ s) where
    pub extension-matrix : (g : ℕ) → g < T.n → (Fm.extension_at (Sc R) s κ).matrix g ≡ (Steps.extension (P R) m i L s κ).matrix g
    unfolding Fm.extension_at Steps.extended
    extension-matrix g b = compared g i
        (λ l. ap (λ k. scale m k ((rep_of L s).matrix g)) (cond-ne g i _ _ (λ e. omega arith)) ∙ scale-zero R h (stands.represents g l s h)
        ∙ sym (extension-low R s κ g (omega arith) ∙ cond-lt g i _ _ l))
        (λ e. ap (λ k. scale m k ((rep_of L s).matrix g)) (cond-eq g i _ _ e ∙ ap (λ z. z / p R + κ * (m / p R)) (shift_is R s h ∙ sym (s-is R s h f)))
        ∙ ap (λ g. scale m (Steps.s (P R) m i L s / p R + κ * (m / p R)) ((rep_of L s).matrix g)) e
        ∙ sym (extension-low R s κ g (omega arith) ∙ cond-ge g i _ _ (omega arith)))
        (λ l. ap (λ k. scale m k ((rep_of L s).matrix g)) (cond-ne g i _ _ (λ e. omega arith)) ∙ scale-zero R h (stands.intertwines g (omega arith) b s h)
        ∙ sym (extension-up R s κ g (omega arith)))

    pub extension-ref : (g c : ℕ) → g < T.n → (Fm.extension_at (Sc R) s κ).ref g c ≡ (Steps.extension (P R) m i L s κ).ref g c
    unfolding Fm.extension_at Steps.extension Steps.a
    extension-ref g c b = not-above g i refl (λ l. ap₂ (λ x y. x + (y + κ * suc ((P R).w i g).0) % p R) (start-same R _) (landing_is R g l b s h f))

  -- ---- Inductions

  module _ (s : ℕ) (h : s < N R) (mv : ¬ (τ R s ≡ s)) (own : leader (O R) s ≡ s) where
    abbrev o : ℕ → ℕ
    o = orb R s h mv own

    -- a block of the formulas, with a constant and an offset
    block : ℕ → ℕ → Matrix
    block g b = Steps.lift (Fm.block_to (Sc R) s g b * deg R s) (scale m (Fm.block_by (Sc R) s g b) ((rep_of L (Fm.orbit (Sc R) s b)).matrix g))

    below-block : (g b : ℕ) → g < i → block g b ≡ Steps.lift (b * deg R s) ((rep_of L (o b)).matrix g)
    unfolding block Fm.block_to Fm.block_by Steps.orbit
    below-block g b l = ap₂ (λ x y. Steps.lift (x * deg R s) (scale m y ((rep_of L (o b)).matrix g))) (cond-lt g i _ _ l) (cond-lt g i _ _ l)
        ∙ ap (Steps.lift (b * deg R s)) (scale-zero R (orb-below R s h mv own b) (stands.represents g l (o b) (orb-below R s h mv own b)))

    abbrev e : ℕ
    e = p R - 1

    e-suc : suc e ≡ p R
    e-suc = omega (arith, T.context.two i)

    -- block b of generator i, by where it goes and what it is multiplied by
    top_is : (b : ℕ) {x y : ℕ} → Fm.next_of (Sc R) b ≡ x → Fm.shift_of (Sc R) s b ≡ y → block i b ≡ Steps.lift (x * deg R s) (scale m y ((rep_of L (o b)).matrix i))
    unfolding block Fm.block_to Fm.block_by Steps.orbit
    top_is b q t = ap₂ (λ x y. Steps.lift (x * deg R s) (scale m y ((rep_of L (o b)).matrix i)))
        (cond-ge i i _ _ (omega arith) ∙ cond-eq i i _ _ refl ∙ q) (cond-ge i i _ _ (omega arith) ∙ cond-eq i i _ _ refl ∙ t)

    top-block : (b : ℕ) → b < e → block i b ≡ Steps.lift (suc b * deg R s) ((rep_of L (o b)).matrix i)
    top-block b l = top_is b (cond-lt (suc b) (p R) _ _ (omega arith)) (cond-lt (suc b) (p R) _ _ (omega arith))
        ∙ ap (Steps.lift (suc b * deg R s)) (scale-zero R (orb-below R s h mv own b) (stands.intertwines i (omega arith) R.in_range (o b) (orb-below R s h mv own b)))

    last_block : block i e ≡ Steps.last_block (P R) m i L s
    last_block =
        top_is e (cond-ge (suc e) (p R) _ _ (omega arith)) (cond-ge (suc e) (p R) _ _ (omega arith) ∙ shift_is R s h ∙ sym (defect-formula R s h mv own))
        ∙ lift-zero (0 * deg R s) _ (omega arith) ∙ sym (last-formula R s h mv own)

    up-block : (g b : ℕ) → i < g → g < T.n → block g b
        ≡ Steps.lift (Steps.position (P R) m i L (Steps.target (P R) m i L g (o b)) * deg R s) (scale m (Steps.c (P R) m i L g s b) ((rep_of L (o b)).matrix g))
    unfolding block Fm.block_to Fm.block_by Steps.position Steps.leader Steps.orbit
    up-block g b l bn = ap₂ (λ x y. Steps.lift (x * deg R s) (scale m y ((rep_of L (o b)).matrix g)))
        (cond-ge g i _ _ (omega arith) ∙ cond-ne g i _ _ (λ q. omega arith))
        (cond-ge g i _ _ (omega arith) ∙ cond-ne g i _ _ (λ q. omega arith) ∙ scalars R s h mv own g l bn b)

    pub induction-matrix : (g : ℕ) → g < T.n → (Fm.induction_at (Sc R) s).matrix g ≡ (Steps.induction (P R) m i L s).matrix g
    unfolding Fm.induction_at block Steps.block_diagonal Steps.block_cycle Steps.block_intertwiner
    induction-matrix g bn = compared g i
        (λ l. blocks-below (p R) (block g) _ (λ b a. below-block g b l) ∙ sym (induction-low R s g (omega arith) ∙ cond-lt g i _ _ l))
        (λ q. ap (λ g. blocks (p R) (block g)) q ∙ ap (λ k. blocks k (block i)) (sym e-suc) ∙ blocks-suc e (block i)
        ∙ ap₂ (◌++◌) (blocks-below e (block i) _ top-block) last_block ∙ sym (induction-low R s g (omega arith) ∙ cond-ge g i _ _ (omega arith)))
        (λ l. blocks-below (p R) (block g) _ (λ b a. up-block g b l bn) ∙ sym (induction-up R s g (omega arith)))

    pub induction-ref : (g c : ℕ) → (Fm.induction_at (Sc R) s).ref g c ≡ (Steps.induction (P R) m i L s).ref g c
    unfolding Fm.induction_at Steps.induction Steps.leader Steps.orbit
    induction-ref g c = ap (λ x. cond (leb g i) (Fm.orbit (Sc R) s (c / deg R s)) x) (start-same R _)

  -- ---- The level

  abbrev by : Level
  by = Fm.level_by (Sc R)

  by_length : length by ≡ sum (N R) (made R)
  unfolding Fm.made Steps.made Steps.fixed Steps.leader Steps.orbit
  by_length = level-length (Sc R)

  by-at : (s κ : ℕ) → s < N R → κ < made R s → rep_of by (sum s (made R) + κ) ≡ get_or (Fm.given_at (Sc R) s) κ no_rep
  unfolding Fm.made Steps.made Steps.fixed Steps.leader Steps.orbit
  by-at = level-at (Sc R)

  by-fixed : (r' : ℕ) (e : Extended R r') → rep_of by r' ≡ Fm.extension_at (Sc R) e.s e.κ
  unfolding Fm.given_at
  by-fixed r' e = ap (rep_of by) (sym e.is) ∙ by-at e.s e.κ e.s_below e.κ-below
      ∙ ap (λ z. get_or z e.κ no_rep) (cond-eq ((rep_of L e.s).ref i 0) e.s _ _ (sym (R.literal i e.s) ∙ e.fixed)) ∙ get_or-table (Fm.extension_at (Sc R) e.s) (p R) e.κ no_rep e.κ-small

  by-moved : (r' : ℕ) (e : Induced R r') → rep_of by r' ≡ Fm.induction_at (Sc R) e.s
  unfolding Fm.given_at
  by-moved r' e = ap (rep_of by) (sym e.is) ∙ by-at e.s 0 e.s_below e.κ-below
      ∙ ap (λ z. get_or z 0 no_rep) (cond-ne ((rep_of L e.s).ref i 0) e.s _ _ (λ q. e.moved (R.literal i e.s ∙ q)) ∙ cond-eq (Fm.leader (Sc R) e.s) e.s _ _ (leader-of R e.s ∙ e.own))

  -- a statement about a representation of the steps and that of the formulas
  both : (Q : Rep → Rep → Type 0) → ((s κ : ℕ) → s < N R → τ R s ≡ s → Q (Steps.extension (P R) m i L s κ) (Fm.extension_at (Sc R) s κ))
      → ((s : ℕ) → s < N R → ¬ (τ R s ≡ s) → leader (O R) s ≡ s → Q (Steps.induction (P R) m i L s) (Fm.induction_at (Sc R) s))
      → (r' : ℕ) → r' < length (next R) → Q (rep_of (next R) r') (rep_of by r')
  both Q ext ind r' h = at_source R (Q (rep_of (next R) r') (rep_of by r')) r' h
      (λ e. subst (λ D. Q D (rep_of by r')) (sym e.rep_is) (subst (Q (Steps.extension (P R) m i L e.s e.κ)) (sym (by-fixed r' e)) (ext e.s e.κ e.s_below e.fixed)))
      (λ e. subst (λ D. Q D (rep_of by r')) (sym e.rep_is) (subst (Q (Steps.induction (P R) m i L e.s)) (sym (by-moved r' e)) (ind e.s e.s_below e.moved e.own)))

  same_degree : (r' : ℕ) → r' < length (next R) → (rep_of (next R) r').deg ≡ (rep_of by r').deg
  unfolding Steps.extension Steps.induction Fm.extension_at Fm.induction_at
  same_degree = both (λ D D'. D.deg ≡ D'.deg) (λ s κ h f. refl) (λ s h mv own. refl)

  same-matrix : (g : ℕ) → g < T.n → (r' : ℕ) → r' < length (next R) → (rep_of (next R) r').matrix g ≡ (rep_of by r').matrix g
  same-matrix g b = both (λ D D'. D.matrix g ≡ D'.matrix g) (λ s κ h f. sym (extension-matrix s κ h f g b)) (λ s h mv own. sym (induction-matrix s h mv own g b))

  same_ref : (g c : ℕ) → g < T.n → (r' : ℕ) → r' < length (next R) → (rep_of (next R) r').ref g c ≡ (rep_of by r').ref g c
  same_ref g c b = both (λ D D'. D.ref g c ≡ D'.ref g c) (λ s κ h f. sym (extension-ref s κ h f g c b)) (λ s h mv own. sym (induction-ref s h mv own g c))

  next-size : (r' g : ℕ) → r' < length (next R) → g < T.n → length ((rep_of (next R) r').matrix g) ≡ (rep_of (next R) r').deg
  next-size r' g h b = by_cases (dec_lt g (suc i)) (λ l. (next-represents R g l r' h).size) (λ l. (next-intertwines R g (omega arith) b r' h).size)

  pub by-formulas : Agrees R.T.n (Steps.next_level R.T.context.P R.m R.i R.L) (Fm.level_by (source_of R.T.context.P R.m R.i R.L))
  unfolding source_of
  by-formulas = record {
    same_length = next-length R ∙ sym by_length;
    same_degree = same_degree;
    size = λ r g h b. ap length (sym (same-matrix g b r h)) ∙ next-size r g h b ∙ same_degree r h;
    same_column = λ r g c h b l. ap (λ M. col M c) (same-matrix g b r h);
    same_ref = λ r g c h b l. same_ref g c b r h;
  }

  pub same-words : level_words R.T.n (suc R.i) (Steps.next_level R.T.context.P R.m R.i R.L)
      ≡ level_words R.T.n (suc R.i) (Fm.level_by (source_of R.T.context.P R.m R.i R.L))
  same-words = agree-words T.n (suc i) _ _ by-formulas
