-- For any table that 21, 22 and 23 let pass, 25 is decided level by level by the quick test.
--
--   relations-part               what 22 says of one generator
--   valid-columns, whole-at, acts-at      what 21 and 23 say of a representation
--   fair-at, restricting-at      its levels are well formed, satisfy the relations and restrict to those below
--   zero-separates               level 0 is separated
--   separated-quick              levels that are separated pass the quick test
--   separation-decides           25 applies exactly if the quick test fails on some level
use mathlib.Core.Path.{◌≡◌, refl, ap}
use mathlib.Core.Bool.{true, false, ◌&&◌, not}
use mathlib.Core.List.{List}
use Prim.Native.Nat.{ℕ, zero, suc, ◌*◌, ◌%◌, ◌≤◌, ◌<◌}
use native.Mathlib.Nat.{le_refl}
use native.Mathlib.Omega.{arith}
use lib.Dec.{eqb, ltb, leb}
use lib.ListN.{length}
use borrow.Author.Tests.{eqb-true, ltb-true, not-false}
use Rattle.definitions.specs.Lists.{upto, all_below, all, any}
use Rattle.definitions.specs.Presentation.{line_words, Presentation, order, value}
use Rattle.definitions.specs.Monomial.{col, identity, valid, Rep, Level, rep_of, image}
use Rattle.definitions.specs.Table.{level_zero, level_at, complete}
use Rattle.definitions.specs.Judgement
use Rattle.numbers.proofs.Bools.{and_left, and_right, same_test}
use Rattle.numbers.proofs.Lists.{all_below-elim, all_below-intro}
use Rattle.numbers.proofs.Prime.{Units}
use Rattle.group.specs.Context.{Context}
use Rattle.group.proofs.Group.{Test}
use Rattle.clifford.proofs.Everywhere.{everywhere-elim}
use Rattle.clifford.proofs.Standing.{zero-degree, at_zero}
use Rattle.separation.specs.Fair.{Fair}
use Rattle.separation.specs.Restricting.{Restricting}
use Rattle.separation.specs.Decision.{quick}
use Rattle.separation.proofs.Restricted.{Two}
use Rattle.separation.proofs.Decision.{quick-separates, separates-quick}

-- the relations of one generator
pub relations-part : (P : Presentation) (m : ℕ) (table : List ℕ) (i : ℕ) (D : Rep) → Judgement.relations_hold P m table i D ≡ true → (j : ℕ) → j < i
    → (Judgement.power_holds P m table D j ≡ true) × ((k : ℕ) → k < j → Judgement.commutator_holds P m table D k j ≡ true)
unfolding Judgement.relations_hold
relations-part P m table i D h j a =
    let t = all_below-elim i _ h j a in
    (and_left (Judgement.power_holds P m table D j) _ t, λ k b. all_below-elim j _ (and_right (Judgement.power_holds P m table D j) _ t) k b)

module _ (C : Context) (m : ℕ) (table : List ℕ) where
  abbrev pub P : Presentation
  P = C.P

  abbrev pub n : ℕ
  n = C.P.n

  abbrev pub Lv : ℕ → Level
  Lv = level_at n table

  -- ---- Level 0

  fair-zero : Fair P m 0 (Lv 0)
  unfolding level_at
  fair-zero = record {
    degree_pos = at_zero (λ r. 0 < (rep_of (Lv 0) r).deg) (omega (arith, zero-degree));
    size = λ r k h l. absurd (omega arith);
    row_below = λ r k c h l. absurd (omega arith);
    exp_below = λ r k c h l. absurd (omega arith);
    powers = λ r j h l. absurd (omega arith);
    commutators = λ r k j h a b. absurd (omega arith);
  }

  zero-separates : (r : ℕ) → r < length (Lv 0) → Judgement.separates P m table 0 r ≡ true
  unfolding level_at level_zero rep_of Judgement.separates Judgement.reaches Judgement.all_forms all_below any image value identity upto col
  zero-separates = at_zero (λ r. Judgement.separates P m table 0 r ≡ true) refl

  -- ---- What 21, 22 and 23 say

  module _ (formed : Judgement.malformed C.P m table ≡ false) (restrictions : Judgement.restriction_fails C.P m table ≡ false) where
    well : (i : ℕ) → i < n → (r : ℕ) → r < length (Lv (suc i))
        → Judgement.matrices_valid P m table (suc i) (rep_of (Lv (suc i)) r) && Judgement.blocks_whole P m table (suc i) (rep_of (Lv (suc i)) r)
        && Judgement.targets_listed P m table (suc i) (rep_of (Lv (suc i)) r) ≡ true
    unfolding Judgement.malformed
    well = everywhere-elim P m table
        (λ i D. Judgement.matrices_valid P m table i D && Judgement.blocks_whole P m table i D && Judgement.targets_listed P m table i D)
        (and_right (eqb (length table % line_words) 0 && complete n table) _ (not-false _ formed))

    module _ (i : ℕ) (l : i < n) (r : ℕ) (h : r < length (Lv (suc i))) where
      abbrev pub Rp : Rep
      Rp = rep_of (Lv (suc i)) r

      pub valid-parts : (ltb 0 Rp.deg && leb (Rp.deg * Rp.deg) (order P (suc i)) ≡ true) × ((g : ℕ) → g < n → valid m Rp.deg (Rp.matrix g) ≡ true)
      unfolding Judgement.matrices_valid
      valid-parts =
          let v = and_left (Judgement.matrices_valid P m table (suc i) Rp) _
          (and_left (Judgement.matrices_valid P m table (suc i) Rp && Judgement.blocks_whole P m table (suc i) Rp) _ (well i l r h)) in (
            and_left (ltb 0 Rp.deg && leb (Rp.deg * Rp.deg) (order P (suc i))) _ v,
            λ g a. all_below-elim n _ (and_right (ltb 0 Rp.deg && leb (Rp.deg * Rp.deg) (order P (suc i))) _ v) g a,
          )

      pub valid-columns : (g : ℕ) → g < n
          → (length (Rp.matrix g) ≡ Rp.deg) × ((k : ℕ) → k < Rp.deg → ((col (Rp.matrix g) k).row < Rp.deg) × ((col (Rp.matrix g) k).exp < m))
      unfolding valid
      valid-columns g a =
          let v = and_left (eqb (length (Rp.matrix g)) Rp.deg
          && all_below Rp.deg (λ k. ltb (col (Rp.matrix g) k).row Rp.deg && ltb (col (Rp.matrix g) k).exp m)) _ (valid-parts.1 g a) in (
            eqb-true _ _ (and_left (eqb (length (Rp.matrix g)) Rp.deg) _ v),
            λ k b.
                let t = all_below-elim Rp.deg _ (and_right (eqb (length (Rp.matrix g)) Rp.deg) _ v) k b in (
                  ltb-true _ _ (and_left (ltb (col (Rp.matrix g) k).row Rp.deg) _ t),
                  ltb-true _ _ (and_right (ltb (col (Rp.matrix g) k).row Rp.deg) _ t),
                ),
          )

      pub whole-at : all (Judgement.whole_block (Lv i) Rp) (Judgement.cuts (Lv i) Rp) ≡ true
      unfolding Judgement.blocks_whole
      whole-at = and_left (all (Judgement.whole_block (Lv i) Rp) (Judgement.cuts (Lv i) Rp)) _
          (and_right (Judgement.matrices_valid P m table (suc i) Rp) _
          (and_left (Judgement.matrices_valid P m table (suc i) Rp && Judgement.blocks_whole P m table (suc i) Rp) _ (well i l r h)))

      pub acts-at : all (Judgement.block_restricts P m table i Rp) (Judgement.cuts (Lv i) Rp) ≡ true
      unfolding Judgement.restriction_fails Judgement.restricts
      acts-at = everywhere-elim P m table (Judgement.restricts P m table) (not-false _ restrictions) i l r h

    pub fair-at : Judgement.relation_fails C.P m table ≡ false → (i : ℕ) → i < C.P.n → Fair C.P m (suc i) (level_at C.P.n table (suc i))
    unfolding Judgement.power_holds Judgement.commutator_holds Judgement.relation_fails
    fair-at relations i l =
        let hold = everywhere-elim P m table (Judgement.relations_hold P m table) (not-false _ relations) i l in
        record {
          degree_pos = λ r h. ltb-true _ _ (and_left (ltb 0 (rep_of (Lv (suc i)) r).deg) _ (valid-parts i l r h).0);
          size = λ r k h a. (valid-columns i l r h k (omega arith)).0;
          row_below = λ r k c h a b. ((valid-columns i l r h k (omega arith)).1 c b).0;
          exp_below = λ r k c h a b. ((valid-columns i l r h k (omega arith)).1 c b).1;
          powers = λ r j h a. (relations-part P m table (suc i) _ (hold r h) j a).0;
          commutators = λ r k j h a b. (relations-part P m table (suc i) _ (hold r h) j b).1 k a;
        }

    pub restricting-at : (i : ℕ) → i < C.P.n → Restricting C.P m table i
    restricting-at i l = record { whole = whole-at i l; acts = acts-at i l }

    -- ---- The walk

    module _ (relations : Judgement.relation_fails C.P m table ≡ false) (pos : 0 < m) (tests : (k : ℕ) → k < C.P.n → Test C k)
        (units : (j : ℕ) → j < C.P.n → Units (C.P.p j)) where
      abbrev Passes : ℕ → Type 0
      Passes i = (r : ℕ) → r < length (Lv i) → Judgement.separates P m table i r ≡ true

      fair-of : (i : ℕ) → i ≤ n → Fair P m i (Lv i)
      fair-of zero l = fair-zero
      fair-of (suc i) l = fair-at relations i l

      two : (i : ℕ) → i < n → Passes i → Two
      two i l h = record {
        C = C;
        tests = tests;
        m = m;
        pos = pos;
        table = table;
        i = i;
        in_range = l;
        units = units i l;
        low_fair = fair-of i (omega arith);
        low_separates = h;
        fair = fair-at relations i l;
        restricting = restricting-at i l;
      }

      -- what passes the quick test on all levels is separated on all levels
      climbs : all_below n (quick P table) ≡ true → (i : ℕ) → i ≤ n → Passes i
      unfolding two
      climbs q zero l = zero-separates
      climbs q (suc i) l = quick-separates (two i l (climbs q i (omega arith))) (all_below-elim n (quick P table) q i l)

      -- the first k levels, if they are separated, pass the quick test
      module _ (k : ℕ) (within : k ≤ C.P.n)
          (separated : (i : ℕ) → i < k → (r : ℕ) → r < length (level_at C.P.n table (suc i)) → Judgement.separates C.P m table (suc i) r ≡ true) where
        passes_at : (i : ℕ) → i ≤ k → Passes i
        passes_at zero l = zero-separates
        passes_at (suc i) l = separated i l

        pub separated-quick : (i : ℕ) → i < k → quick C.P table i ≡ true
        unfolding two
        separated-quick i l = separates-quick (two i (omega arith) (passes_at i (omega arith))) (separated i l)

      pub separation-decides : Judgement.not_separated C.P m table ≡ not (all_below C.P.n (quick C.P table))
      unfolding Judgement.not_separated Judgement.every_level
      separation-decides = ap not (same_test _ _
          (λ s. all_below-intro n _ (separated-quick n (le_refl n) (λ i l. all_below-elim _ _ (all_below-elim n _ s i l))))
          (λ q. all_below-intro n _ (λ i l. all_below-intro (length (Lv (suc i))) _ (λ r h. climbs q (suc i) l r h))))
