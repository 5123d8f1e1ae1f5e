-- What refusal 21 leaves of a representation that is found: its lines hold matrices, and its references are listed.
--
--   well_formed        what 21 asks of each representation
--   found-stored      so the lines of a representation are stored, where 21 does not apply
--   found_target      its intertwiners lead to representations of its level
--   blocks-whole      its references stand in whole blocks
use mathlib.Core.Path.{◌≡◌, sym, ◌∙◌, ap, subst}
use mathlib.Core.Bool.{Bool, true, false, ◌&&◌, ◌||◌}
use mathlib.Core.List.{List}
use Prim.Native.Nat.{ℕ, zero, suc, ◌+◌, ◌*◌, ◌%◌, ◌≤◌, ◌<◌}
use native.Mathlib.Nat.{mul-le-mul_right}
use native.Mathlib.Omega.{arith}
use lib.Dec.{eqb, ltb, leb}
use lib.ListN.{length}
use borrow.Author.Tests.{ltb-true, le-ltb, not-false}
use Rattle.definitions.specs.Lists.{all_below, all}
use Rattle.definitions.specs.Presentation.{Presentation, line_words, order}
use Rattle.definitions.specs.Monomial.{valid, Rep, rep_of}
use Rattle.definitions.specs.Table.{REF, word_at, rep_at, level_at, complete}
use Rattle.definitions.specs.Judgement.{cuts, whole_block, matrices_valid, blocks_whole, targets_listed, malformed}
use Rattle.numbers.proofs.Bools.{and_left, and_right}
use Rattle.numbers.proofs.Lists.{all_below-elim}
use Rattle.clifford.proofs.Everywhere.{everywhere-elim}
use Rattle.level.specs.declared.Listed.{Listed}
use Rattle.level.specs.Stored.{matrix_in, target_in, Stored}
use Rattle.level.proofs.Matrices.{valid-holds}
use Rattle.seek.specs.Seek.{Found}
use Rattle.seek.proofs.Halves.{lines-there}

-- ---- A representation

module _ (P : Presentation) (m : ℕ) (T : List ℕ) (formed : malformed P m T ≡ false) where
  pub well_formed : (i : ℕ) → i < P.n → (r : ℕ) → r < length (level_at P.n T (suc i))
      → matrices_valid P m T (suc i) (rep_of (level_at P.n T (suc i)) r) && blocks_whole P m T (suc i) (rep_of (level_at P.n T (suc i)) r)
      && targets_listed P m T (suc i) (rep_of (level_at P.n T (suc i)) r) ≡ true
  unfolding malformed
  well_formed =
      everywhere-elim P m T (λ i D. matrices_valid P m T i D && blocks_whole P m T i D && targets_listed P m T i D)
      (and_right (eqb (length T % line_words) 0 && complete P.n T) _ (not-false _ formed))

  matrices-valid : (i : ℕ) → i < P.n → (r : ℕ) → r < length (level_at P.n T (suc i)) → (g : ℕ) → g < P.n
      → valid m (rep_of (level_at P.n T (suc i)) r).deg ((rep_of (level_at P.n T (suc i)) r).matrix g) ≡ true
  unfolding matrices_valid
  matrices-valid i l r h =
      let R : Rep = rep_of (level_at P.n T (suc i)) r in
      let degree : Bool = ltb 0 R.deg && leb (R.deg * R.deg) (order P (suc i)) in
      let each : Bool = all_below P.n (λ g. valid m R.deg (R.matrix g)) in
      let v = and_left (degree && each) (blocks_whole P m T (suc i) R) (and_left _ (targets_listed P m T (suc i) R) (well_formed i l r h)) in
      all_below-elim P.n (λ g. valid m R.deg (R.matrix g)) (and_right degree each v)

  pub found-stored : m ≤ 2147483648 → (i r : ℕ) (D : Listed) → Found P.n T i r D → Stored m P.n T D
  found-stored small zero r D F = absurd (omega (arith, F.level.0))
  found-stored small (suc i) r D F = record {
    positive = F.positive;
    degree = F.said;
    holds = λ g l. valid-holds m small T (D.line + g * D.deg) D.deg (room g l) (matrix g l);
  }
    where
      room : (g : ℕ) → g < P.n → 8 * (D.line + g * D.deg + D.deg) ≤ length T
      room g l =
          let e : suc g * D.deg ≤ P.n * D.deg = mul-le-mul_right D.deg l in
          lines-there T (D.line + g * D.deg + D.deg) (omega (arith, F.inside, e))

      matrix : (g : ℕ) → g < P.n → valid m D.deg (matrix_in T (D.line + g * D.deg) D.deg) ≡ true
      matrix g l = unfold rep_at in (subst (λ (X : Rep). valid m X.deg (X.matrix g) ≡ true) F.rep (matrices-valid i F.level.1 r F.listed g l))

  -- ---- Its references

  targets-listed : (i : ℕ) → i < P.n → (r : ℕ) → r < length (level_at P.n T (suc i)) → (j : ℕ) → suc i ≤ j → j < P.n
      → (rep_of (level_at P.n T (suc i)) r).ref j 0 < length (level_at P.n T (suc i))
  unfolding targets_listed
  targets-listed i l r h j a b =
      let R : Rep = rep_of (level_at P.n T (suc i)) r in
      let many : ℕ = length (level_at P.n T (suc i)) in
      let one : Bool = all_below R.deg (λ c. eqb (R.ref j c) (R.ref j 0)) in
      let v = and_right (matrices_valid P m T (suc i) R && blocks_whole P m T (suc i) R) (targets_listed P m T (suc i) R) (well_formed i l r h) in
      let w = all_below-elim P.n (λ j. ltb j (suc i) || (ltb (R.ref j 0) many && all_below R.deg (λ c. eqb (R.ref j c) (R.ref j 0)))) v j b in
      let x = sym (ap (λ t. t || (ltb (R.ref j 0) many && one)) (le-ltb j (suc i) a)) ∙ w in
      ltb-true (R.ref j 0) many (and_left (ltb (R.ref j 0) many) one x)

  pub found_target : (i r : ℕ) (D : Listed) → Found P.n T i r D → (j : ℕ) → i ≤ j → j < P.n → target_in T D j < length (level_at P.n T i)
  found_target zero r D F j a b = absurd (omega (arith, F.level.0))
  found_target (suc i) r D F j a b = subst (λ l. word_at T l REF < length (level_at P.n T (suc i))) first here
    where
      first : D.line + j * D.deg + 0 ≡ D.line + j * D.deg
      first = omega arith

      here : word_at T (D.line + j * D.deg + 0) REF < length (level_at P.n T (suc i))
      here = unfold rep_at in
          (subst (λ (X : Rep). X.ref j 0 < length (level_at P.n T (suc i))) F.rep (targets-listed i F.level.1 r F.listed j a b))

  pub blocks-whole : (i : ℕ) → i < P.n → (r : ℕ) → r < length (level_at P.n T (suc i))
      → all (whole_block (level_at P.n T i) (rep_of (level_at P.n T (suc i)) r)) (cuts (level_at P.n T i) (rep_of (level_at P.n T (suc i)) r)) ≡ true
  unfolding blocks_whole
  blocks-whole i l r h =
      let R : Rep = rep_of (level_at P.n T (suc i)) r in
      let v = and_left (matrices_valid P m T (suc i) R && blocks_whole P m T (suc i) R) (targets_listed P m T (suc i) R) (well_formed i l r h) in
      and_left (all (whole_block (level_at P.n T i) R) (cuts (level_at P.n T i) R)) _ (and_right (matrices_valid P m T (suc i) R) _ v)
