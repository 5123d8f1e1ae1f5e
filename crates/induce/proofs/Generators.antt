-- What was written for a generator are the lines of the formulas.
--
--   stills-are, cells_are      the blocks of a generator, where they stay and where they may move
--   scalars-small              its scalars are below the modulus
--   above-is                   the number of what a generator above the one on top leads to
--   induced-degree, induction-is, induction-room     what is induced from an orbit: its degree, its words, and their room
use mathlib.Core.Path.{◌≡◌, refl, sym, ap, ◌∙◌, subst}
use mathlib.Core.Logic.{by_cases}
use mathlib.Core.List.{List}
use Prim.Native.Nat.{ℕ, zero, suc, ◌+◌, ◌*◌, ◌≤◌, ◌<◌}
use native.Mathlib.Omega.{arith}
use native.Mathlib.Nat.{mod-lt}
use native.Mathlib.Decide.{dec_lt, ℕ_discrete}
use mathlib.Core.Bool.{cond}
use borrow.Author.Tests.{le-leb}
use lib.Dec.{eqb, ltb, leb}
use lib.ListN.{length, get_or}
use Rattle.definitions.specs.Lists.{blocks, least}
use Rattle.definitions.specs.Monomial.{less}
use Rattle.definitions.specs.Table.{rep_words}
use Rattle.numbers.proofs.Bools.{cond-true, cond-lt, cond-ge, cond-eq}
use Rattle.numbers.proofs.Blocks.{blocks-below}
use Rattle.formulas.specs.Formulas.{Source, start, shift, leader, block_to, block_by, scalar, scalar_at, induction_at}
use Rattle.lines.specs.Lines.{Space}
use Rattle.survey.specs.declared.Frame.{Frame}
use Rattle.survey.specs.declared.Note.{Note}
use Rattle.survey.specs.Below.{deg_of, target_of, source_in, leader_in, Surveyed}
use Rattle.survey.proofs.Marking.{lead-below}
use Rattle.orbits.specs.declared.Block.{Block}
use Rattle.orbits.specs.Blocks.{scalars, member_of, Inducing, BlockScalars}
use Rattle.induce.specs.declared.Induction.{Induction}
use Rattle.induce.specs.Inducing.{induction_of, number_above, factor_in, stills_in, still_words, cells_in, induced_words, induction_words}
use Rattle.induce.proofs.Cells.{cell-is, induced-words}

module _ (f : Frame) (W : List ℕ) (rows : List (List ℕ)) (notes : List Note) (b₁ : List Block) (i : Induction) (I : Inducing f W rows notes b₁ i.leader) (g : ℕ) where
  abbrev S : Source
  S = source_in f W rows

  abbrev r : ℕ
  r = i.leader

  factor-is : f.top ≤ g → (f.top < g → BlockScalars f W rows (scalars b₁) g r) → (b : ℕ) → b < f.p → factor_in f notes b₁ r g b ≡ block_by S r g b
  unfolding factor_in block_by
  factor-is high known b h =
      let is = I.surveyed.shifts_are.at r I.leads.listed I.leads.led in
      ap (λ x. by x (get_or (scalars b₁) b 0)) is ∙ go (ℕ_discrete g f.top) ∙ sym (cond-ge g f.top _ _ high)
    where
      by : ℕ → ℕ → ℕ
      by x y = cond (eqb g f.top) (cond (ltb (suc b) f.p) 0 x) y

      go : Dec (g ≡ f.top) → by (shift S r) (get_or (scalars b₁) b 0) ≡ by (shift S r) (scalar S g r b)
      go (yes e) = cond-eq g f.top _ _ e ∙ sym (cond-eq g f.top _ _ e)
      go (no e) = ap (by (shift S r)) ((known (omega (arith, e))).at b h)

  refers-is : (q x y : ℕ) → (f.top < g → x ≡ y) → cond (leb g f.top) q x ≡ cond (leb g f.top) q y
  refers-is q x y e = by_cases (dec_lt f.top g)
      (λ a. ap (cond (leb g f.top) q) (e a))
      (λ a. let l = le-leb g f.top (omega (arith, a)) in cond-true _ _ _ l ∙ sym (cond-true _ _ _ l))

  above-is : g < f.gens → f.top < g → number_above f W notes g r ≡ start S (leader S (target_of f W g r))
  above-is l a =
      let Y = I.surveyed in
      let st = Y.sound.stands in
      let t : target_of f W g r < f.reps = (st.target r I.leads.listed g (omega (arith, a)) l).0 in
      Y.numbers_are.at (leader_in f W (target_of f W g r)) (omega (arith, t, lead-below f W st (target_of f W g r) t))

  pub stills-are : g < f.top → i.deg ≡ deg_of f W r → still_words f W i g ≡ induced_words f W rows i g
  unfolding stills_in block_to block_by
  stills-are l e =
      let is = cell-is f W rows i g I.surveyed.sound.stands I.leads.listed in
      let low = le-leb g f.top (omega (arith, l)) in
      let lt : (x y : ℕ) → x ≡ cond (ltb g f.top) x y = λ x y. sym (cond-lt g f.top x y l) in
      blocks-below f.p _ _ (λ b h. is b b 0 (member_of f W r b) h e (lt _ _) (lt _ _) (sym (cond-true _ _ _ low)))
      ∙ sym (induced-words f W rows i g)

  pub cells_are : (x : ℕ) → f.top ≤ g → g < f.gens → i.deg ≡ deg_of f W r → (f.top < g → BlockScalars f W rows (scalars b₁) g r)
      → (f.top < g → x ≡ number_above f W notes g r) → blocks f.p (cells_in f W notes b₁ i g x) ≡ induced_words f W rows i g
  unfolding cells_in block_to
  cells_are x high l e known is_x =
      let is = cell-is f W rows i g I.surveyed.sound.stands I.leads.listed in
      blocks-below f.p _ _ (λ b h. is b _ _ _ h e refl (factor-is high known b h) (refers-is (member_of f W r b) x _ (λ a. is_x a ∙ above-is l a)))
      ∙ sym (induced-words f W rows i g)

  pub scalars-small : BlockScalars f W rows (scalars b₁) g r → (b : ℕ) → b < f.p → get_or (scalars b₁) b 0 < f.m
  unfolding scalar
  scalars-small K b h = subst (λ x. x < f.m) (sym (K.at b h)) (below (least f.p _))
    where
      m : 0 < f.m
      m = I.surveyed.sound.stands.modulus.0

      below : (t : ℕ) → scalar_at S g r t < f.m
      below zero = unfold scalar_at in m
      below (suc t) = unfold scalar_at less in (mod-lt _ m)

-- ---- The representation

module _ (f : Frame) (W : List ℕ) (notes : List Note) (i : Induction) (r : ℕ) (e : i ≡ induction_of f W notes r) where
  pub induced-degree : i.deg ≡ deg_of f W i.leader
  induced-degree = subst (λ (j : Induction). j.deg ≡ deg_of f W j.leader) (sym e) refl

  pub induction-is : (rows : List (List ℕ)) → Surveyed f W rows notes → r < f.reps → blocks f.gens (induced_words f W rows i) ≡ induction_words f W rows r
  unfolding rep_words induced_words induction_at
  induction-is rows Y l =
      ap (λ (j : Induction). blocks f.gens (induced_words f W rows j)) e
      ∙ ap (λ n. blocks f.gens (induced_words f W rows (record { leader = r; number = n; deg = deg_of f W r }))) (Y.numbers_are.at r l)

  pub induction-room : {low at : ℕ} {w : List ℕ} → Space low at (8 * (f.gens * (f.p * deg_of f W r))) w → 8 * at + f.gens * (f.p * (8 * i.deg)) ≤ length w
  induction-room {low} {at} {w} s = subst (λ n. 8 * at + n ≤ length w) (regroup f.gens f.p (deg_of f W r) ∙ same) s.room
    where
      same : f.gens * (f.p * (8 * deg_of f W r)) ≡ f.gens * (f.p * (8 * i.deg))
      same = ap (λ (j : Induction). f.gens * (f.p * (8 * j.deg))) (sym e)

      regroup : (n p d : ℕ) → 8 * (n * (p * d)) ≡ n * (p * (8 * d))
      regroup n p d = omega arith
