-- For any table that 21 and 23 let pass, 22 is decided by the relations of the generator on top of each level.
--
--   on-top                             the relations of the generator on top are among all
--   lower_power, lower-commutator      the relations of the level below hold above it
--   relations-decide                   22 applies exactly if a relation of a generator on top fails
use mathlib.Core.Path.{◌≡◌, refl, sym, ◌∙◌, ap, subst}
use mathlib.Core.Bool.{Bool, true, false, ◌&&◌, not}
use mathlib.Core.List.{List}
use Prim.Native.Nat.{ℕ, zero, suc, ◌+◌, ◌≤◌, ◌<◌}
use native.Mathlib.Nat.{mod-eq_of_lt}
use native.Mathlib.Omega.{arith}
use lib.Dec.{eqb, ltb}
use lib.ListN.{length}
use borrow.Author.Tests.{eqb-true, ltb-true, leb-true, eq-eqb}
use Rattle.definitions.specs.Lists.{all_below, all}
use Rattle.definitions.specs.Presentation.{NF, Presentation, power}
use Rattle.definitions.specs.Monomial.{Matrix, col, product, matrices, same_entry, same_matrix, Rep, Level, rep_of, image, conjugate}
use Rattle.definitions.specs.Table.{level_at}
use Rattle.definitions.specs.Judgement
use Rattle.numbers.proofs.Bools.{and_left, and_right, and_intro, same_test}
use Rattle.numbers.proofs.Lists.{all_below-elim, all_below-intro}
use Rattle.group.specs.Context.{Context}
use Rattle.monomial.proofs.Frames.{entry-path}
use Rattle.separation.specs.Relations.{top_relations}
use Rattle.separation.proofs.Cutting.{all_both, cut, cut_at}
use Rattle.separation.proofs.Within.{WithinMatrix, within-mul, within-power, within-value, within_same}
use Rattle.separation.proofs.Walk.{relations-part, valid-parts, valid-columns, whole-at, acts-at}

pub on-top : (P : Presentation) (m : ℕ) (table : List ℕ) (i : ℕ) (D : Rep) → Judgement.relations_hold P m table (suc i) D ≡ true
    → top_relations P m table (suc i) D ≡ true
unfolding Judgement.relations_hold top_relations all_below
on-top P m table i D t = and_right (all_below i (λ j. Judgement.power_holds P m table D j && all_below j (λ k. Judgement.commutator_holds P m table D k j))) _ t

module _ (C : Context) (m : ℕ) (table : List ℕ) (formed : Judgement.malformed C.P m table ≡ false)
    (restrictions : Judgement.restriction_fails C.P m table ≡ false) where
  open C use {P}
  open P use {n}

  abbrev Lv : ℕ → Level
  Lv = level_at n table

  -- ---- Level suc (suc i) over level suc i

  module _ (i : ℕ) (l : suc i < n) (r : ℕ) (h : r < length (Lv (suc (suc i)))) where
    abbrev D : Rep
    D = rep_of (Lv (suc (suc i))) r

    abbrev low : Level
    low = Lv (suc i)

    abbrev below : ℕ → Rep
    below o = rep_of low (D.ref 0 o)

    passing : ℕ → Bool
    passing o = Judgement.whole_block low D o && Judgement.block_restricts P m table (suc i) D o

    all_pass : all passing (Judgement.cuts low D) ≡ true
    unfolding passing
    all_pass = all_both _ _ (Judgement.cuts low D) (whole-at C m table formed restrictions (suc i) l r h) (acts-at C m table formed restrictions (suc i) l r h)

    listed : (o : ℕ) → passing o ≡ true → D.ref 0 o < length low
    unfolding passing Judgement.whole_block
    listed o t = ltb-true _ _ (and_left _ _ (and_left _ _ (and_left (Judgement.whole_block low D o) _ t)))

    fits : (o : ℕ) → passing o ≡ true → o + (below o).deg ≤ D.deg
    unfolding passing Judgement.whole_block
    fits o t = leb-true _ _ (and_right (ltb (D.ref 0 o) (length low)) _ (and_left _ _ (and_left (Judgement.whole_block low D o) _ t)))

    i-in : i < n
    i-in = omega arith

    positive : (o : ℕ) → passing o ≡ true → 0 < (below o).deg
    positive o t = ltb-true _ _ (and_left (ltb 0 (below o).deg) _ (valid-parts C m table formed restrictions i i-in (D.ref 0 o) (listed o t)).0)

    module _ (o : ℕ) (t : passing o ≡ true) where
      abbrev W : Matrix → Matrix → Type 0
      W = WithinMatrix m o (below o).deg D.deg (fits o t)

      generator-within : (g : ℕ) → g < suc i → W (D.matrix g) ((below o).matrix g)
      unfolding passing Judgement.block_restricts same_entry
      generator-within g a =
          let big = valid-columns C m table formed restrictions (suc i) l r h g (omega arith) in
          let small = valid-columns C m table formed restrictions i i-in (D.ref 0 o) (listed o t) g (omega arith) in
          record {
            size = big.0;
            size' = small.0;
            inside = λ c b. (small.1 c b).0;
            acts = λ c b.
                let s = all_below-elim _ _ (all_below-elim (suc i) _ (and_right (Judgement.whole_block low D o) _ t) g a) c b in
                let oc : o + c < D.deg = omega (arith, fits o t) in
                entry-path (eqb-true _ _ (and_left (eqb (col (D.matrix g) (o + c)).row _) _ s))
                (sym (mod-eq_of_lt (big.1 (o + c) oc).1) ∙ eqb-true _ _ (and_right (eqb (col (D.matrix g) (o + c)).row _) _ s)
                ∙ mod-eq_of_lt (small.1 c b).1);
          }

      word-within : (k : ℕ) → k ≤ suc i → (x : NF k) → W (image m D k x) (image m (below o) k x)
      unfolding image
      word-within k a x = within-value m o (below o).deg D.deg (fits o t) D.matrix (below o).matrix k (λ g b. generator-within g (omega arith)) x

    -- what is equal in every block is equal
    blocks-same : (A B : Matrix) (a b : ℕ → Matrix) → ((o : ℕ) (t : passing o ≡ true) → W o t A (a o)) → ((o : ℕ) (t : passing o ≡ true) → W o t B (b o))
        → ((o : ℕ) → passing o ≡ true → same_matrix m (a o) (b o) ≡ true) → same_matrix m A B ≡ true
    unfolding same_matrix
    blocks-same A B a b wa wb s =
        let k₀ = cut_at low D passing positive all_pass 0
        (ltb-true _ _ (and_left (ltb 0 D.deg) _ (valid-parts C m table formed restrictions (suc i) l r h).0)) in
        let la : length A ≡ D.deg = (wa _ k₀.passes).size in
        let lb : length B ≡ D.deg = (wb _ k₀.passes).size in
        and_intro _ _ (eq-eqb _ _ (la ∙ sym lb)) (all_below-intro (length A) _ (λ k c.
        let q = cut_at low D passing positive all_pass k (subst (λ z. k < z) la c) in
        let o : ℕ = cut low D q.b in
        subst (λ k. same_entry m (col A k) (col B k) ≡ true) q.is
        (within_same m o (below o).deg D.deg (fits o q.passes) A B (a o) (b o) (wa o q.passes) (wb o q.passes) (s o q.passes)
        q.κ q.inside)))

    module _ (relations : (r : ℕ) → r < length (Lv (suc i)) → Judgement.relations_hold P m table (suc i) (rep_of (Lv (suc i)) r) ≡ true) where
      pub lower_power : (j : ℕ) → j < suc i → Judgement.power_holds C.P m table (rep_of (level_at C.P.n table (suc (suc i))) r) j ≡ true
      unfolding Judgement.power_holds
      lower_power j a = blocks-same _ _ (λ o. power (matrices m (below o).deg) ((below o).matrix j) (P.p j)) (λ o. image m (below o) j (P.u j))
          (λ o t. within-power m o (below o).deg D.deg (fits o t) (D.matrix j) ((below o).matrix j) (generator-within o t j a) (P.p j))
          (λ o t. word-within o t j (omega arith) (P.u j)) (λ o t. (relations-part P m table (suc i) (below o) (relations (D.ref 0 o) (listed o t)) j a).0)

      pub lower-commutator : (k j : ℕ) → k < j → j < suc i
          → Judgement.commutator_holds C.P m table (rep_of (level_at C.P.n table (suc (suc i))) r) k j ≡ true
      unfolding Judgement.commutator_holds conjugate
      lower-commutator k j b a = blocks-same _ _ (λ o. product m ((below o).matrix k) ((below o).matrix j))
          (λ o. product m ((below o).matrix j) (product m ((below o).matrix k) (image m (below o) (suc k) (P.w k j))))
          (λ o t. within-mul m o (below o).deg D.deg (fits o t) _ _ _ _ (generator-within o t k (omega arith)) (generator-within o t j a))
          (λ o t. within-mul m o (below o).deg D.deg (fits o t) _ _ _ _ (generator-within o t j a)
          (within-mul m o (below o).deg D.deg (fits o t) _ _ _ _ (generator-within o t k (omega arith)) (word-within o t (suc k) (omega arith) (P.w k j))))
          (λ o t. (relations-part P m table (suc i) (below o) (relations (D.ref 0 o) (listed o t)) j a).1 k b)

  -- ---- All levels

  abbrev Holds : ℕ → Type 0
  Holds i = (r : ℕ) → r < length (Lv i) → Judgement.relations_hold P m table i (rep_of (Lv i) r) ≡ true

  climbs : ((i : ℕ) → i < n → (r : ℕ) → r < length (Lv (suc i)) → top_relations P m table (suc i) (rep_of (Lv (suc i)) r) ≡ true) → (i : ℕ) → i < n
      → Holds (suc i)
  unfolding Judgement.relations_hold top_relations all_below
  climbs tops zero l = λ r h. and_intro _ _ refl (tops 0 l r h)
  climbs tops (suc i) l = λ r h. and_intro _ _
      (all_below-intro (suc i) _
      (λ j a. and_intro _ _ (lower_power i l r h (climbs tops i (omega arith)) j a)
      (all_below-intro j _ (λ k b. lower-commutator i l r h (climbs tops i (omega arith)) k j b a))))
      (tops (suc i) l r h)

  pub relations-decide : Judgement.relation_fails C.P m table ≡ not (Judgement.everywhere C.P m table (top_relations C.P m table))
  unfolding Judgement.relation_fails Judgement.everywhere
  relations-decide = ap not (same_test _ _
      (λ s. all_below-intro n _ (λ i l. all_below-intro _ _ (λ r h. on-top P m table i (rep_of (Lv (suc i)) r) (all_below-elim _ _ (all_below-elim n _ s i l) r h))))
      (λ s. all_below-intro n _ (λ i l. all_below-intro _ _ (λ r h. climbs (λ i l r h. all_below-elim _ _ (all_below-elim n _ s i l) r h) i l r h))))
