-- From what a text says to what the code holds.
--
--   reads-ready           primes and rows of relations that refusals 11 to 14 let pass are in range
--   decides               the answer for every level is the answer for the relations
--   decides-consistent    which says whether they are consistent
use mathlib.Core.Path.{◌≡◌, sym, ◌∙◌, ap, subst}
use mathlib.Core.Bool.{Bool, true, false}
use mathlib.Core.Logic.{◌↔◌}
use mathlib.Core.List.{List}
use Prim.Native.Nat.{ℕ, ◌<◌}
use native.Mathlib.Omega.{arith}
use lib.Dec.{ltb}
use borrow.Author.Tests.{ltb-false}
use Rattle.definitions.specs.Lists.{all_below}
use Rattle.definitions.specs.Presentation.{max_generators, max_order, order, Relations, well_formed, some_not_prime, too_large, misused, presentation}
use Rattle.definitions.specs.Consistency.{Consistent, level_test, test}
use Rattle.numbers.proofs.Bools.{or-false-left}
use Rattle.group.proofs.Context.{prime-two, prime-small, context, accept}
use Rattle.rows.specs.Rows.{Ranged, Reads}
use Rattle.rows.proofs.Forms.{reads-small}
use Rattle.consistency.specs.Answers.{TestAnswer, DecidesTest}

module _ (R : Relations) (formed : well_formed R ≡ true) (primes : some_not_prime R ≡ false) (used : misused R ≡ false)
    (n : ℕ) (count : n ≡ R.n) (ps : List ℕ) (rows : List (List ℕ)) (reads : Reads (presentation R) n ps rows) where
  pub reads-ready : too_large R ≡ false → Ranged n ps rows
  unfolding context too_large
  reads-ready h = record {
    few = omega (arith, ltb-false max_generators R.n (or-false-left (ltb max_generators R.n) (ltb max_order (order (presentation R) R.n)) h));
    two = λ k l. subst (λ p. 1 < p) (sym (reads.p_is k l)) (prime-two R formed primes k);
    bounded = λ k l. omega (arith, reads.p_is k l, prime-small R formed k (omega arith));
    word = λ j i. reads-small (context R formed primes used) n ps rows reads j i;
  }

  pub decides-relations : (r : Bool) → TestAnswer n ps rows (λ P. all_below n (level_test P)) r → r ≡ test (presentation R)
  unfolding context presentation test
  decides-relations r a = a.is (context R formed primes used) reads ∙ ap (λ m. all_below m (level_test (presentation R))) count

  -- the answer of the code is whether the presentation is consistent
  pub decides-consistent : (r : Bool) → DecidesTest n ps rows r → (r ≡ true) ↔ Consistent (presentation R)
  decides-consistent r d =
      let e = d.is R formed primes used count reads in
      (λ t. (accept R formed primes used).0 (sym e ∙ t), λ c. e ∙ (accept R formed primes used).1 c)

pub decides : {n : ℕ} {ps : List ℕ} {rows : List (List ℕ)} {r : Bool} → TestAnswer n ps rows (λ P. all_below n (level_test P)) r → DecidesTest n ps rows r
decides {n} {ps} {rows} {r} a = record { is = λ R f p u c H. decides-relations R f p u n c ps rows H r a }
