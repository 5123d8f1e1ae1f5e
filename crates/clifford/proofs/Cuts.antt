-- The blocks of a representation as the checker cuts them: whole (21), and acting as listed (23).
--
--   cuts-pass            what holds at the start of each block holds at every cut
--   blocks-whole         the references are in whole blocks, the same for every generator
--   blocks-restrict      each generator acts in a block as in what the block refers to
use mathlib.Core.Path.{◌≡◌, refl, sym, ◌∙◌, ap, subst}
use mathlib.Core.Logic.{by_cases}
use mathlib.Core.Bool.{Bool, true, ◌&&◌}
use mathlib.Core.List.{List}
use Prim.Native.Nat.{ℕ, zero, suc, ◌+◌, ◌*◌, ◌/◌, ◌%◌, ◌≤◌, ◌<◌}
use native.Mathlib.Nat.{mod-lt, mod-add-div', mul-le-mul_right, div-lt_iff_lt-mul}
use native.Mathlib.Omega.{arith}
use native.Mathlib.Decide.{dec_lt}
use lib.Dec.{eqb}
use lib.ListN.{length}
use borrow.Author.Tests.{eq-eqb, lt-ltb, le-leb}
use Rattle.definitions.specs.declared.Entry.{Entry}
use Rattle.definitions.specs.Lists.{all_below, all}
use Rattle.definitions.specs.Presentation.{Presentation}
use Rattle.definitions.specs.Monomial.{entry, col, same_entry, Rep, Level, rep_of}
use Rattle.definitions.specs.Table.{level_at}
use Rattle.definitions.specs.Judgement
use Rattle.numbers.proofs.Bools.{and_intro, cond-lt, cond-ge}
use Rattle.numbers.proofs.Lists.{all_below-intro}
use Rattle.clifford.specs.Stands.{Restricts}

module _ (i : ℕ) (low : Level) (D : Rep) (Q : Restricts i low D) where
  open Q use {count, width, part}

  -- the reference of the start of block b
  ref-start : (b : ℕ) → b < count → D.ref 0 (b * width) ≡ part b
  ref-start b l = let z : b * width ≡ b * width + 0 = omega arith in ap (D.ref 0) z ∙ Q.refers 0 (omega arith) b 0 l Q.width_pos

  width-at : (b : ℕ) → b < count → (rep_of low (D.ref 0 (b * width))).deg ≡ width
  width-at b l = ap (λ r. (rep_of low r).deg) (ref-start b l) ∙ Q.part_degree b l

  -- the test of every cut, from block b on
  from_block : (q : ℕ → Bool) → ((b : ℕ) → b < count → q (b * width) ≡ true) → (f b : ℕ) → all q (Judgement.cuts_from low D f (b * width)) ≡ true
  unfolding Judgement.cuts_from all
  from_block q h zero b = refl
  from_block q h (suc f) b = by_cases (dec_lt b count) (λ l.
      let inside : b * width < D.deg = subst (λ z. b * width < z) (sym Q.degree) (omega (arith, mul-le-mul_right width l, Q.width_pos)) in
      let z : b * width + width ≡ suc b * width = omega arith in
      ap (all q) (cond-lt (b * width) D.deg _ _ inside)
      ∙ and_intro _ _ (h b l)
      (ap (λ w. all q (Judgement.cuts_from low D f (b * width + w))) (width-at b l) ∙ ap (λ w. all q (Judgement.cuts_from low D f w)) z
      ∙ from_block q h f (suc b))) (λ l.
      let out : D.deg ≤ b * width = subst (λ z. z ≤ b * width) (sym Q.degree) (mul-le-mul_right width (omega arith)) in
      ap (all q) (cond-ge (b * width) D.deg _ _ out))

  pub cuts-pass : (q : ℕ → Bool) → ((b : ℕ) → b < Q.count → q (b * Q.width) ≡ true) → all q (Judgement.cuts low D) ≡ true
  unfolding Judgement.cuts
  cuts-pass q h = let z : 0 ≡ 0 * width = omega arith in ap (λ o. all q (Judgement.cuts_from low D D.deg o)) z ∙ from_block q h D.deg 0

  whole : (b : ℕ) → b < count → Judgement.whole_block low D (b * width) ≡ true
  unfolding Judgement.whole_block
  whole b l =
      let w : (rep_of low (D.ref 0 (b * width))).deg ≡ width = width-at b l in
      let fits : b * width + (rep_of low (D.ref 0 (b * width))).deg ≤ D.deg =
      subst (λ z. b * width + z ≤ D.deg) (sym w) (subst (λ z. b * width + width ≤ z) (sym Q.degree) (omega (arith, mul-le-mul_right width l))) in
      and_intro _ _ (and_intro _ _ (lt-ltb _ _ (subst (λ z. z < length low) (sym (ref-start b l)) (Q.part_below b l))) (le-leb _ _ fits))
      (all_below-intro _ _ (λ c a. eq-eqb _ _ (Q.refers 0 (omega arith) b c l (subst (λ z. c < z) w a) ∙ sym (ref-start b l))))

  -- every generator refers alike
  alike : (g : ℕ) → g < suc i → (c : ℕ) → c < D.deg → D.ref g c ≡ D.ref 0 c
  alike g l c a =
      let b : ℕ = c / width in
      let k : ℕ = c % width in
      let b-below : b < count = (div-lt_iff_lt-mul Q.width_pos).1 (subst (λ z. c < z) Q.degree a) in
      let k_below : k < width = mod-lt c Q.width_pos in
      let e : c ≡ b * width + k = omega (arith, mod-add-div' c width) in
      ap (D.ref g) e ∙ Q.refers g l b k b-below k_below ∙ sym (ap (D.ref 0) e ∙ Q.refers 0 (omega arith) b k b-below k_below)

  pub whole-alike : all (Judgement.whole_block low D) (Judgement.cuts low D)
      && all_below (suc i) (λ g. all_below D.deg (λ c. eqb (D.ref g c) (D.ref 0 c))) ≡ true
  whole-alike = and_intro _ _ (cuts-pass (Judgement.whole_block low D) whole)
      (all_below-intro (suc i) _ (λ g l. all_below-intro D.deg _ (λ c a. eq-eqb _ _ (alike g l c a))))

module _ (P : Presentation) (m : ℕ) (table : List ℕ) (i : ℕ) (D : Rep) (Q : Restricts i (level_at P.n table i) D) where
  open Q use {count, width, part}

  pub blocks-whole : Judgement.blocks_whole P m table (suc i) D ≡ true
  unfolding Judgement.blocks_whole
  blocks-whole = whole-alike i (level_at P.n table i) D Q

  block-restricts : (b : ℕ) → b < count → Judgement.block_restricts P m table i D (b * width) ≡ true
  unfolding Judgement.block_restricts same_entry
  block-restricts b l =
      let low : Level = level_at P.n table i in
      let ref : D.ref 0 (b * width) ≡ part b = ref-start i low D Q b l in
      all_below-intro i _ (λ k a. all_below-intro _ _ (λ c e.
      let c_below : c < width = subst (λ z. c < z) (width-at i low D Q b l) e in
      let same = Q.acts k a b c l c_below ∙ ap (λ r. entry (b * width + (col ((rep_of low r).matrix k) c).row) (col ((rep_of low r).matrix k) c).exp) (sym ref) in
      and_intro _ _ (eq-eqb _ _ (ap (λ (x : Entry). x.row) same)) (eq-eqb _ _ (ap (λ (x : Entry). x.exp % m) same))))

  pub blocks-restrict : Judgement.restricts P m table (suc i) D ≡ true
  unfolding Judgement.restricts
  blocks-restrict = cuts-pass i (level_at P.n table i) D Q (Judgement.block_restricts P m table i D) block-restricts
