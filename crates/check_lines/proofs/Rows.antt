-- The rows of a matrix by marks: rows below the degree are all there exactly if no two lines have one row.
--
--   SeenRows T at M c     the marks M are those of the rows of the first c lines, and these differ
--   seen_none, seen_more     at the start, and one line more
--   seen_all, seen_twice     all rows are there, or one is not
--   single-matrix         a matrix of degree 1, by its entry
use mathlib.Core.Path.{◌≡◌, refl, sym, ◌∙◌, ap, subst}
use mathlib.Core.Logic.{by_cases}
use mathlib.Core.Bool.{Bool, true, false, false≢true}
use mathlib.Core.List.{List}
use Prim.Native.Nat.{ℕ, zero, suc, ◌+◌, ◌≤◌, ◌<◌}
use native.Mathlib.Decide.{dec_lt, ℕ_discrete}
use native.Mathlib.Omega.{arith}
use lib.Dec.{eqb}
use lib.ListN.{length, get_or, set, replicate, length-set, length-replicate}
use lib.Seq.{get_or-set_same, get_or-set_other}
use borrow.Author.Count.{below_more}
use borrow.Author.Tests.{eqb-true, eq-eqb}
use Rattle.definitions.specs.Lists.{all_below}
use Rattle.definitions.specs.Presentation.{max_degree}
use Rattle.definitions.specs.Monomial.{valid}
use Rattle.numbers.proofs.Bools.{same_test, refuted}
use Rattle.numbers.proofs.Lists.{all_below-intro, all_below-elim}
use Rattle.numbers.proofs.Searches.{any_below-intro, any_below-elim}
use Rattle.numbers.proofs.Pigeonhole.{Injects, injects-onto, onto-injects}
use Rattle.level.specs.Stored.{entry_in, matrix_in}
use Rattle.check_lines.specs.Lines.{entry_ok, RowsBelow, has_row}
use Rattle.check_lines.proofs.Lines.{entries_below, matrix-entries, matrix-rows}

-- no row is marked at the start
unmarked : (n k : ℕ) → get_or (replicate n false) k false ≡ false
unmarked zero k = refl
unmarked (suc n) zero = refl
unmarked (suc n) (suc k) = unmarked n k

module _ (T : List ℕ) (at : ℕ) where
  abbrev row : ℕ → ℕ
  row c = (entry_in T (at + c)).row

  pub record SeenRows (M : List Bool) (c : ℕ) : Type 0 where
    pub size : length M ≡ max_degree
    pub seen : (k : ℕ) → k < c → get_or M (entry_in T (at + k)).row false ≡ true
    pub only : (r : ℕ) → get_or M r false ≡ true → (k : ℕ) × (k < c) × ((entry_in T (at + k)).row ≡ r)
    pub differ : (j k : ℕ) → j < c → k < c → (entry_in T (at + j)).row ≡ (entry_in T (at + k)).row → j ≡ k

  pub seen_none : SeenRows (replicate max_degree false) 0
  seen_none = record {
    size = length-replicate {A = Bool} max_degree false;
    seen = λ k l. absurd (omega arith);
    only = λ r n. absurd (false≢true (sym (unmarked max_degree r) ∙ n));
    differ = λ j k l. absurd (omega arith);
  }

  module _ {M : List Bool} {c : ℕ} (S : SeenRows M c) where
    module _ (r : ℕ) (is : r ≡ (entry_in T (at + c)).row) (inside : r < max_degree) (free : get_or M r false ≡ false) where
      room : r < length M
      room = subst (λ n. r < n) (sym S.size) inside

      marked : (k : ℕ) → get_or M k false ≡ true → get_or (set M r true) k false ≡ true
      marked k n = by_cases (ℕ_discrete k r)
          (λ e. absurd (false≢true (sym free ∙ subst (λ k. get_or M k false ≡ true) e n)))
          (λ e. get_or-set_other M r k true false e ∙ n)

      last : get_or (set M r true) (row c) false ≡ true
      last = subst (λ k. get_or (set M r true) k false ≡ true) is (get_or-set_same M r true false room)

      others : (k : ℕ) → k < c → ¬ (row k ≡ row c)
      others k l e = false≢true (sym free ∙ subst (λ x. get_or M x false ≡ true) (e ∙ sym is) (S.seen k l))

      which : (x : ℕ) → get_or (set M r true) x false ≡ true → (k : ℕ) × (k < c + 1) × (row k ≡ x)
      which x n = by_cases (ℕ_discrete x r)
          (λ e. (c, omega arith, sym is ∙ sym e))
          (λ e. let (k, l, q) = S.only x (sym (get_or-set_other M r x true false e) ∙ n) in (k, omega arith, q))

      apart : (j k : ℕ) → j < c + 1 → k < c + 1 → row j ≡ row k → j ≡ k
      apart j k a b e = go (dec_lt j c) (dec_lt k c)
        where
          go : Dec (j < c) → Dec (k < c) → j ≡ k
          go (yes p) (yes q) = S.differ j k p q e
          go (yes p) (no q) = let z : k ≡ c = omega arith in absurd (others j p (e ∙ ap row z))
          go (no p) (yes q) = let z : j ≡ c = omega arith in absurd (others k q (sym e ∙ ap row z))
          go (no p) (no q) = omega arith

      pub seen_more : SeenRows (set M r true) (c + 1)
      seen_more = record {
        size = length-set M r true ∙ S.size;
        seen = below_more (λ k. get_or (set M r true) (row k) false ≡ true) c (λ k l. marked (row k) (S.seen k l)) last;
        only = which;
        differ = apart;
      }

    pub seen_all : (d : ℕ) → RowsBelow T at d → d ≤ c → true ≡ all_below d (has_row T at d)
    seen_all d below h = sym (all_below-intro d _ (λ r l.
        let injects : Injects d d row = record { below = below; injective = λ j k a b. S.differ j k (omega arith) (omega arith) } in
        let (k, a, e) = injects-onto d row injects r l in
        any_below-intro d (λ c. eqb (row c) r) k a (eq-eqb _ _ e)))

    pub seen_twice : (d : ℕ) → c < d → (r : ℕ) → r ≡ (entry_in T (at + c)).row → get_or M r false ≡ true → false ≡ all_below d (has_row T at d)
    seen_twice d l r is n = refuted _ (λ h.
        let (k, a, e) = S.only r n in
        let z : k ≡ c = onto-injects d row (hit h) k c (omega arith) l (e ∙ is) in
        omega (arith, a, z))
      where
        hit : all_below d (has_row T at d) ≡ true → (b : ℕ) → b < d → (k : ℕ) × (k < d) × (row k ≡ b)
        hit h b l = let (k, a, e) = any_below-elim d (λ c. eqb (row c) b) (all_below-elim d _ h b l) in (k, a, eqb-true _ b e)

  module _ (m d : ℕ) (one : d ≡ 1) where
    first-row : RowsBelow T at d → true ≡ all_below d (has_row T at d)
    first-row below = sym (all_below-intro d _ (λ r l.
        let z : 0 < d = omega arith in
        let same : row 0 ≡ r = omega (arith, below 0 z) in
        any_below-intro d (λ c. eqb (row c) r) 0 z (eq-eqb (row 0) r same)))

    start : at ≡ at + 0
    start = omega arith

    whole : entry_ok m d (entry_in T at) ≡ true → valid m d (matrix_in T at d) ≡ true
    whole h =
        let entries = all_below-intro d (λ c. entry_ok m d (entry_in T (at + c))) (λ c l.
        let z : at ≡ at + c = omega arith in subst (λ k. entry_ok m d (entry_in T k) ≡ true) z h) in
        sym (first-row (entries_below m T at d entries) ∙ matrix-rows m T at d entries)

    pub single-matrix : entry_ok m d (entry_in T at) ≡ valid m d (matrix_in T at d)
    single-matrix =
        same_test (entry_ok m d (entry_in T at)) (valid m d (matrix_in T at d)) whole
        (λ h. subst (λ k. entry_ok m d (entry_in T k) ≡ true) (sym start) (all_below-elim d _ (matrix-entries m T at d h) 0 (omega arith)))
