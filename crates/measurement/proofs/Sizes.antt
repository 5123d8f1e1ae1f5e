-- The size of a sound presentation.
--
--   A, same, is-small, count_of     the group of its relations, within the ceilings, with as many generators
--   wide, product_is, measurable    n fits a word, products of its primes are orders, and can be measured
--   size-order, size-words          what is measured is the order, and the words that a build wants
use mathlib.Core.Path.{◌≡◌, sym, ap, subst, ◌∙◌}
use Prim.Native.Nat.{ℕ, suc, ◌*◌, ◌≤◌}
use native.Mathlib.Omega.{arith}
use Rattle.definitions.specs.Lists.{sum}
use Rattle.definitions.specs.Presentation.{Relations, max_generators, max_order, line_words, order, build_words, presentation}
use Rattle.numbers.proofs.Sums.{sum_below}
use Rattle.presentation.specs.declared.ReadPresentation.{ReadPresentation}
use Rattle.conditions.specs.declared.size.Size.{Size}
use Rattle.conditions.specs.Conditions.{product}
use Rattle.conditions.specs.Size.{Measured}
use Rattle.conditions.proofs.Conditions.{product-order}
use Rattle.clifford.specs.Accepted.{Accepted}
use Rattle.clifford.proofs.Theorem.{accepted, accepted-is}
use Rattle.levels.specs.Built.{WithinCeilings}
use Rattle.levels.proofs.Room.{order_le}
use Rattle.levels.proofs.Stated.{small}
use Rattle.acceptance.specs.Accepted.{Confirmed}

module _ {R : Relations} {p : ReadPresentation} (S : Confirmed R p) where
  abbrev pub A : Accepted
  A = accepted R S.passed.formed S.passed.primes S.passed.used S.consistent

  pub same : A.C.P ≡ presentation R
  same = accepted-is R S.passed.formed S.passed.primes S.passed.used S.consistent

  pub is-small : WithinCeilings A
  is-small = small R S.passed.formed S.passed.primes S.passed.used S.consistent S.passed.fits

  pub count_of : p.n ≡ A.C.P.n
  unfolding presentation
  count_of = S.passed.held.count ∙ ap (λ Q. Q.n) (sym same)

  pub wide : p.n ≤ max_generators
  wide = omega (arith, S.passed.held.count, S.passed.held.few)

  pub product_is : (j : ℕ) → j ≤ p.n → product p.primes j ≡ order (presentation R) j
  product_is = product-order (presentation R) p.primes p.n (λ j l. S.passed.held.reads.p_is j (omega (arith, S.passed.held.count)))

  pub measurable : (j : ℕ) → j ≤ p.n → product p.primes j ≤ max_order
  measurable j l =
      subst (λ x. x ≤ max_order) (ap (λ Q. order Q j) same ∙ sym (product_is j l)) (omega (arith, order_le A j (omega (arith, count_of)), is-small.low))

  module _ {s : Size} (M : Measured p.primes p.n s) where
    pub size-order : s.order ≡ order (presentation R) R.n
    size-order = M.order_is ∙ product_is p.n (omega arith) ∙ ap (order (presentation R)) S.passed.held.count

    pub size-words : s.words ≡ build_words (presentation R)
    unfolding build_words presentation
    size-words =
        M.words_are
        ∙ ap (λ x. line_words * (p.n * x)) (sum_below p.n _ (λ i. order (presentation R) (suc i)) (λ i l. product_is (suc i) l))
        ∙ ap (λ x. line_words * (x * sum x (λ i. order (presentation R) (suc i)))) S.passed.held.count
