-- From the conditions on a text to the context of the theory, and ACCEPT for what a text says.
--
--   prime-small      a prime has at most nine digits
--   prime-two        every prime is above 1, also beyond n
--   exponent_below   every exponent of every row is below its prime
--   exponent-unused  and is 0 where the word may not use the generator
--   context          the context of relations that refusals 11, 12 and 14 let pass
--   accept           (test P ≡ true) ↔ Consistent P, for P the presentation of such relations
--   decision         its consistency is decided
--   group_of          the levels of a consistent one, as groups
use mathlib.Core.Path.{◌≡◌, sym, ◌∙◌, ap, subst}
use mathlib.Core.Bool.{Bool, true, false, ◌&&◌, ◌||◌}
use mathlib.Core.Logic.{◌↔◌, by_cases}
use mathlib.Core.List.{[]}
use Prim.Native.Nat.{ℕ, suc, ◌≤◌, ◌<◌}
use native.Mathlib.Omega.{arith}
use native.Mathlib.Decide.{dec_lt}
use lib.Dec.{eqb, leb, ltb}
use lib.ListN.{length, get_or, get_or-eq_default}
use borrow.Author.Tests.{ltb-true, leb-true, eqb-true, not-false}
use Rattle.definitions.specs.Lists.{all_below, sum}
use Rattle.definitions.specs.Text.{largest, small}
use Rattle.definitions.specs.Presentation.{Row, Relations, pair_number, well_formed, row_of, presentation, is_prime, some_not_prime, allowed, row_well, misused}
use Rattle.definitions.specs.Consistency.{Consistent, test}
use Rattle.definitions.proofs.Rendering.{row_formed, well_formed-formed}
use Rattle.numbers.proofs.Bools.{and_left, and_right}
use Rattle.numbers.proofs.Lists.{all_below-elim, all_get_d, sum_mono}
use Rattle.numbers.proofs.Prime as Prime
use Rattle.group.specs.Context.{Context}
use Rattle.group.proofs.Rows.{to_nf-valid}
use Rattle.group.proofs.Pairs.{length_pairs, pair_number-power, pair_number-below, pair-at}
use Rattle.group.proofs.Group.{TestedContext}
use Rattle.group.proofs.Accept.{accepts, decide, tested}

-- the row of a pair that has none
abbrev none : Row
none = record { p = 2; word = [] }

module _ (R : Relations) (used : misused R ≡ false) where
  -- what 14 asks of exponent m of the row of a pair of generators below n
  exponent-well : (j i m : ℕ) → j < R.n → i < suc j → m < R.n
      → (ltb (get_or (row_of R j i).word m 0) ((presentation R).p m) && (allowed j i m || eqb (get_or (row_of R j i).word m 0) 0)) ≡ true
  unfolding misused row_well
  exponent-well j i m a b l =
      let fits : ℕ → Bool = λ k. ltb (get_or (row_of R j i).word k 0) ((presentation R).p k) && (allowed j i k || eqb (get_or (row_of R j i).word k 0) 0) in
      let row = all_below-elim (suc j) (λ i. row_well R j i) (all_below-elim R.n (λ j. all_below (suc j) (λ i. row_well R j i)) (not-false _ used) j a) i b in
      all_below-elim R.n fits (and_right (eqb i j || eqb (row_of R j i).p 0) (all_below R.n fits) row) m l

  pub exponent-unused : (j i m : ℕ) → i ≤ j → j < R.n → m < R.n → allowed j i m ≡ false → get_or (row_of R j i).word m 0 ≡ 0
  exponent-unused j i m a b l h =
      let e = get_or (row_of R j i).word m 0 in
      let well = and_right (ltb e ((presentation R).p m)) (allowed j i m || eqb e 0) (exponent-well j i m b (omega arith) l) in
      eqb-true e 0 (sym (ap (λ t. t || eqb e 0) h) ∙ well)

module _ (R : Relations) (formed : well_formed R ≡ true) where
  length-rows : length R.rows ≡ sum R.n suc
  length-rows = (well_formed-formed R formed).one_each ∙ length_pairs R.n

  -- a row has n exponents, and its prime at most nine digits
  row-formed : (r : ℕ) → r < length R.rows → (length (get_or R.rows r none).word ≡ R.n) × ((get_or R.rows r none).p ≤ largest)
  row-formed r l =
      let row = get_or R.rows r none in
      let wide = eqb (length row.word) R.n in
      let few = leb row.p largest in
      let both = and_left (wide && few) (small row.word) (all_get_d (row_formed R.n) R.rows none (well_formed-formed R formed).formed_each r l) in
      (eqb-true _ _ (and_left wide few both), leb-true _ _ (and_right wide few both))

  pub prime-small : (j : ℕ) → j < R.n → (presentation R).p j ≤ largest
  unfolding presentation row_of
  prime-small j l = (row-formed (pair_number j j) (omega (arith, length-rows, pair_number-below R.n j j (omega arith) l))).1

  module _ (primes : some_not_prime R ≡ false) where
    pub prime-two : (j : ℕ) → 1 < (presentation R).p j
    unfolding some_not_prime is_prime presentation row_of
    prime-two j = by_cases (dec_lt j R.n)
        (λ l. Prime.prime-two ((presentation R).p j) (all_below-elim R.n (λ j. is_prime ((presentation R).p j)) (not-false _ primes) j l))
        (λ l. let q : get_or R.rows (pair_number j j) none ≡ none
        = get_or-eq_default R.rows none (omega (arith, length-rows, pair_number-power j, sum_mono R.n j suc (omega arith))) in
        subst (λ (r : Row). 1 < r.p) (sym q) (omega arith))

    module _ (used : misused R ≡ false) where
      -- exponent m of the row of a pair of generators below n
      pair-below : (j i m : ℕ) → j < R.n → i < suc j → m < R.n → get_or (row_of R j i).word m 0 < (presentation R).p m
      pair-below j i m a b l =
          let e = get_or (row_of R j i).word m 0 in
          ltb-true e ((presentation R).p m) (and_left (ltb e ((presentation R).p m)) (allowed j i m || eqb e 0) (exponent-well R used j i m a b l))

      row_below : (r m : ℕ) → get_or (get_or R.rows r none).word m 0 < (presentation R).p m
      unfolding row_of
      row_below r m = by_cases (dec_lt r (length R.rows))
          (λ a. by_cases (dec_lt m R.n)
          (λ b. let q = pair-at R.n r (omega (arith, length-rows)) in
          subst (λ r. get_or (get_or R.rows r none).word m 0 < (presentation R).p m) q.is (pair-below q.j q.i m q.j_below q.i_below b))
          (λ b. omega (arith, prime-two m, get_or-eq_default (get_or R.rows r none).word 0 {n = m} (omega (arith, (row-formed r a).0)))))
          (λ a. omega (arith, prime-two m, ap (λ (t : Row). get_or t.word m 0) (get_or-eq_default R.rows none {n = r} (omega arith))))

      pub exponent_below : (j i m : ℕ) → get_or (row_of R j i).word m 0 < (presentation R).p m
      unfolding row_of
      exponent_below j i m = row_below (pair_number j i) m

      unfoldable pub context : Context
      unfolding presentation
      context = record {
        P = presentation R;
        two = prime-two;
        u_valid = λ j. to_nf-valid (presentation R) j _ (λ k l. exponent_below j j k);
        w_valid = λ k j. to_nf-valid (presentation R) (suc k) _ (λ m l. exponent_below j k m);
      }

      pub accept : (test (presentation R) ≡ true) ↔ Consistent (presentation R)
      unfolding context
      accept = accepts context

      pub decision : Dec (Consistent (presentation R))
      unfolding context
      decision = decide context

      -- the group of a consistent text
      unfoldable pub group_of : Consistent (presentation R) → TestedContext
      unfolding context
      group_of c = tested context (accept.1 c)
