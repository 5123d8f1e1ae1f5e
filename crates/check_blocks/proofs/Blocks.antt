-- The blocks of a representation, column by column and one behind the other.
--
--   acts-is                         a column, by its row and its exponent
--   among-within                    a block that is referred to has room, and its lines hold matrices
--   column-there                    the lines of the first generator are there
--   whole-listed, whole-refers      what a whole block refers to is listed, and has room
--   block_is                        the test of a block
--   CutTo                           the test of the blocks from column o on says what the whole test says
--   going-none, going-whole, going_more, going-fails, going-all      the steps of the loop
use mathlib.Core.Path.{◌≡◌, sym, ◌∙◌, ap, ap₂, subst}
use mathlib.Core.Bool.{Bool, true, false, ◌&&◌}
use mathlib.Core.List.{List}
use Prim.Native.Nat.{ℕ, suc, ◌+◌, ◌*◌, ◌%◌, ◌≤◌, ◌<◌}
use native.Mathlib.Nat.{mod-eq_of_lt, mul-le-mul_right}
use native.Mathlib.Omega.{arith}
use lib.Dec.{eqb}
use lib.ListN.{length}
use Rattle.definitions.specs.declared.Entry.{Entry}
use Rattle.definitions.specs.Lists.{all_below}
use Rattle.definitions.specs.Presentation.{Presentation}
use Rattle.definitions.specs.Monomial.{entry, col, same_entry, Rep, Level, rep_of}
use Rattle.definitions.specs.Table.{REF, word_at, rep_at, level_at}
use Rattle.definitions.specs.Judgement.{whole_block, block_restricts, restricts}
use Rattle.numbers.proofs.Lists.{all_below-below}
use Rattle.monomial.proofs.Frames.{col-table}
use Rattle.heads.proofs.Cutting.{Cutting, cutting-none, cutting-more, cutting-fails, cutting-all, cutting-passes, block_listed, block_room}
use Rattle.level.specs.declared.Listed.{Listed}
use Rattle.level.specs.Stored.{entry_in, line_in}
use Rattle.seek.specs.declared.Scope.{Scope}
use Rattle.seek.specs.Seek.{Found}
use Rattle.seek.specs.Formed.{Formed, Tells}
use Rattle.seek.specs.Among.{rep_in, Among}
use Rattle.seek.proofs.Halves.{line-there}
use Rattle.seek.proofs.Among.{formed-stored, among-whole}
use Rattle.check_blocks.specs.Blocks.{Within, column_acts, Refers}

-- ---- One column

module _ (T : List ℕ) (D : Listed) (o : ℕ) (F : Listed) (k c : ℕ) (x y : Entry)
    (first : x ≡ entry_in T (line_in D k + (o + c))) (second : y ≡ entry_in T (line_in F k + c)) where
  pub acts-is : column_acts T D o F k c ≡ (eqb x.row (o + y.row) && eqb x.exp y.exp)
  unfolding column_acts
  acts-is = sym (ap₂ (λ (x y : Entry). eqb x.row (o + y.row) && eqb x.exp y.exp) first second)

module _ {s : Scope} {T : List ℕ} {D : Listed} {o : ℕ} {F : Listed} (W : Within s T D o F) where
  -- exponents below the modulus are equal modulo it only if they are equal
  column-is : (k c : ℕ) → k < s.gens → c < F.deg
      → same_entry s.m (col ((rep_in T D).matrix k) (o + c)) (entry (o + (col ((rep_in T F).matrix k) c).row) (col ((rep_in T F).matrix k) c).exp)
      ≡ column_acts T D o F k c
  unfolding rep_at same_entry column_acts
  column-is k c l h =
      let low : o + c < D.deg = omega (arith, W.room) in
      let x = ((W.whole.holds k l).valid (o + c) low).exp in
      let y = ((W.block.holds k l).valid c h).exp in
      ap₂ (λ (x y : Entry). eqb x.row (o + y.row) && eqb (x.exp % s.m) (y.exp % s.m))
      (col-table (λ c. entry_in T (line_in D k + c)) D.deg (o + c) low) (col-table (λ c. entry_in T (line_in F k + c)) F.deg c h)
      ∙ ap₂ (λ a b. eqb (entry_in T (line_in D k + (o + c))).row (o + (entry_in T (line_in F k + c)).row) && eqb a b) (mod-eq_of_lt x) (mod-eq_of_lt y)

-- ---- One block

module _ {s : Scope} {T : List ℕ} {i : ℕ} {D : Listed} (M : Among s T (suc i) D) where
  abbrev low : Level
  low = level_at s.gens T i

  abbrev Rp : Rep
  Rp = rep_in T D

  pub among-within : {o : ℕ} {F : Listed} → Refers s T i D o F → Within s T D o F
  among-within R = record {
    whole = formed-stored M.formed (suc i) M.r M.found;
    block = formed-stored M.formed i _ R.found;
    room = R.room;
  }

  pub column-there : (o : ℕ) → o < D.deg → 8 * (D.line + o) + 8 ≤ length T
  column-there o l =
      let e : 1 * D.deg ≤ s.gens * D.deg = mul-le-mul_right D.deg M.formed.whole.some in
      line-there T (D.line + o) (omega (arith, M.found.inside, e))

  module _ (o : ℕ) (w : whole_block (level_at s.gens T i) (rep_in T D) o ≡ true) where
    room : o + (rep_of low ((rep_in T D).ref 0 o)).deg ≤ D.deg
    unfolding rep_at
    room = block_room low Rp o w

    module _ (x l : ℕ) (is : x ≡ word_at T l REF) (line : l ≡ D.line + o) where
      ref-is : x ≡ Rp.ref 0 o
      unfolding rep_at
      ref-is = let e : l ≡ D.line + 0 * D.deg + o = omega arith in is ∙ ap (λ l. word_at T l REF) e

      pub whole-listed : x < length (level_at s.gens T i)
      whole-listed = subst (λ x. x < length low) (sym ref-is) (block_listed low Rp o w)

      pub whole-refers : {F : Listed} → Found s.gens T i x F → Refers s T i D o F
      whole-refers {F} G =
          let G' = subst (λ x. Found s.gens T i x F) ref-is G in
          record { found = G'; room = subst (λ d. o + d ≤ D.deg) (sym G'.deg) room }

module _ {s : Scope} {T : List ℕ} {i : ℕ} {D : Listed} {o : ℕ} {F : Listed} {P : Presentation} (formed : Formed P s T) (R : Refers s T i D o F) where
  referred : Found P.n T i ((rep_in T D).ref 0 o) F
  referred = subst (λ n. Found n T i ((rep_in T D).ref 0 o) F) formed.gens_are R.found

  pub block_is : Within s T D o F → i ≤ s.gens
      → all_below i (λ k. all_below F.deg (column_acts T D o F k)) ≡ block_restricts P s.m T i (rep_in T D) o
  unfolding block_restricts rep_at
  block_is W l = sym (
      ap (λ (X : Rep). all_below i (λ k. all_below X.deg (λ c.
      same_entry s.m (col ((rep_in T D).matrix k) (o + c)) (entry (o + (col (X.matrix k) c).row) (col (X.matrix k) c).exp)))) referred.rep
      ∙ all_below-below i _ _ (λ k a. all_below-below F.deg _ _ (λ c b. column-is W k c (omega arith) b)))

-- ---- The blocks of a representation

pub record CutTo (s : Scope) (T : List ℕ) (i : ℕ) (D : Listed) (o : ℕ) : Type 0 where
  pub whole : Cutting (level_at s.gens T i) (rep_in T D) (whole_block (level_at s.gens T i) (rep_in T D)) o
  pub acts : (P : Presentation) → Formed P s T → Cutting (level_at P.n T i) (rep_in T D) (block_restricts P s.m T i (rep_in T D)) o

module _ (s : Scope) (T : List ℕ) (i : ℕ) (D : Listed) where
  pub going-none : CutTo s T i D 0
  going-none = record { whole = cutting-none _ _ _; acts = λ P p. cutting-none _ _ _ }

  abbrev pub Acts : Bool → Type 0
  Acts b = Tells s T (λ P. restricts P s.m T (suc i) (rep_in T D)) b

  module _ (M : Among s T (suc i) D) {o : ℕ} (G : CutTo s T i D o) where
    pub going-whole : o < D.deg → whole_block (level_at s.gens T i) (rep_in T D) o ≡ true
    unfolding rep_at
    going-whole l = cutting-passes _ _ _ o G.whole l (among-whole M)

    pub going-all : D.deg ≤ o → Acts true
    unfolding restricts rep_at
    going-all l = record { is = λ P p. sym (cutting-all _ _ _ o (G.acts P p) l) }

    module _ {F : Listed} (R : Refers s T i D o F) {b : Bool} (l : o < D.deg)
        (is : b ≡ all_below i (λ k. all_below F.deg (column_acts T D o F k))) where
      test-is : (P : Presentation) → Formed P s T → b ≡ block_restricts P s.m T i (rep_in T D) o
      test-is P p = is ∙ block_is p R (among-within M R) R.found.level.1

      pub going-fails : b ≡ false → Acts false
      unfolding restricts rep_at
      going-fails e = record { is = λ P p. sym (cutting-fails _ _ _ o (G.acts P p) l (sym (test-is P p) ∙ e)) }

      pub going_more : b ≡ true → CutTo s T i D (o + F.deg)
      unfolding rep_at
      going_more e = record {
        whole = subst (λ d. Cutting low Rp (whole_block low Rp) (o + d)) (sym R.found.deg)
            (cutting-more low Rp (whole_block low Rp) o G.whole l (subst (λ d. 0 < d) R.found.deg R.found.positive) (going-whole l));
        acts = λ P p.
            let q : ℕ → Bool = block_restricts P s.m T i Rp in
            let H = referred p R in
            subst (λ d. Cutting (level_at P.n T i) Rp q (o + d)) (sym H.deg)
            (cutting-more (level_at P.n T i) Rp q o (G.acts P p) l (subst (λ d. 0 < d) H.deg H.positive) (sym (test-is P p) ∙ e));
      }
        where
          low : Level
          low = level_at s.gens T i

          Rp : Rep
          Rp = rep_in T D
