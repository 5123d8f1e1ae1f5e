-- The squares of the degrees of a level, taken from its order one by one.
--
--   Left n T i order left r      the squares of the first r representations leave so much of the order
--   left-none, left-more, left-fails, left-all      the steps of the loop
--   AddingUp, adds-known, adds-told, adds-fails, adds-holds     the levels
use mathlib.Core.Path.{◌≡◌, sym, ◌∙◌, ap, ap₂}
use mathlib.Core.Bool.{Bool, true, false}
use mathlib.Core.List.{List}
use Prim.Native.Nat.{ℕ, suc, ◌+◌, ◌*◌, ◌-◌, ◌≤◌, ◌<◌}
use native.Mathlib.Numerals.{add-one}
use native.Mathlib.Omega.{arith}
use lib.Dec.{eqb}
use lib.ListN.{length, get_or}
use borrow.Author.Tests.{eq-eqb, ne_eqb, eqb-true}
use Rattle.definitions.specs.Lists.{sum, all_below}
use Rattle.definitions.specs.Presentation.{Presentation, order}
use Rattle.definitions.specs.Table.{level_at}
use Rattle.definitions.specs.Judgement.{every_level, squares}
use Rattle.numbers.proofs.Bools.{same_test}
use Rattle.numbers.proofs.Lists.{sum_mono}
use Rattle.numbers.proofs.Sums.{sum-zero, sum-suc}
use Rattle.numbers.proofs.Passed.{Passed, passed-all, passed-fails}
use Rattle.level.specs.declared.Listed.{Listed}
use Rattle.seek.specs.declared.Scope.{Scope}
use Rattle.seek.specs.Seek.{Found}
use Rattle.seek.specs.Formed.{Ordered}
use Rattle.check_blocks.specs.Squares.{square_of, squares_in, OrderedBehind, AddsUp}

-- ---- One level

pub record Left (n : ℕ) (T : List ℕ) (i o left r : ℕ) : Type 0 where
  pub is : left + sum r (square_of n T i) ≡ o

module _ (n : ℕ) (T : List ℕ) (i o : ℕ) where
  pub left-none : (left : ℕ) → left ≡ o → Left n T i o left 0
  left-none left e = record { is = omega (arith, e, sum-zero (square_of n T i)) }

  module _ {left r : ℕ} (L : Left n T i o left r) where
    pub left-all : length (level_at n T i) ≡ r → eqb left 0 ≡ eqb (squares_in n T i) o
    unfolding squares_in
    left-all e =
        let s : sum (length (level_at n T i)) (square_of n T i) ≡ sum r (square_of n T i) = ap (λ r. sum r (square_of n T i)) e in
        same_test (eqb left 0) (eqb (squares_in n T i) o)
        (λ h. eq-eqb (squares_in n T i) o (omega (arith, s, L.is, eqb-true left 0 h)))
        (λ h. eq-eqb left 0 (omega (arith, s, L.is, eqb-true (squares_in n T i) o h)))

    module _ {D : Listed} (F : Found n T i r D) (q : ℕ) (is : q ≡ D.deg * D.deg) where
      square-is : q ≡ square_of n T i r
      square-is = is ∙ ap (λ d. d * d) F.deg

      pub left-more : q ≤ left → Left n T i o (left - q) (r + 1)
      left-more l = record { is = omega (arith, L.is, square-is, sum-suc r (square_of n T i), ap (λ r. sum r (square_of n T i)) (add-one r)) }

      pub left-fails : left < q → false ≡ eqb (squares_in n T i) o
      unfolding squares_in
      left-fails l =
          let m = sum_mono (suc r) (length (level_at n T i)) (square_of n T i) F.listed in
          sym (ne_eqb (squares_in n T i) o (λ e. omega (arith, e, m, L.is, square-is, sum-suc r (square_of n T i))))

-- ---- The levels

module _ (s : Scope) (orders T : List ℕ) where
  abbrev test : Presentation → ℕ → Bool
  test P i = eqb (squares P s.m T i) (order P i)

  abbrev pub AddingUp : (k i : ℕ) → Type 0
  AddingUp k i = Passed (OrderedBehind s orders T k) (λ P i. test P (suc i)) i

  pub adds-known : {k : ℕ} → AddingUp k k
  adds-known = record { tested = λ P O. record { each = O.known } }

  every-is : (P : Presentation) → Ordered P s orders → all_below s.gens (λ i. test P (suc i)) ≡ every_level P s.m T (test P)
  unfolding every_level
  every-is P O = ap (λ n. all_below n (λ i. test P (suc i))) O.gens_are

  module _ {i : ℕ} (l : i < s.gens) {b : Bool} (k o : ℕ) (next : k ≡ i + 1) (is : o ≡ get_or orders k 0)
      (told : b ≡ eqb (squares_in s.gens T (i + 1)) o) where
    pub adds-told : (P : Presentation) → Ordered P s orders → b ≡ eqb (squares P s.m T (suc i)) (order P (suc i))
    unfolding squares_in squares
    adds-told P O =
        told ∙ ap₂ eqb (ap₂ (λ n i. squares_in n T i) O.gens_are (add-one i))
        (is ∙ ap (λ k. get_or orders k 0) (next ∙ add-one i) ∙ O.orders_are (suc i) (omega (arith, O.gens_are)))

    pub adds-fails : {k : ℕ} → AddingUp k i → b ≡ false → AddsUp s orders T k false
    adds-fails h e = record { is = λ P O. passed-fails h l (λ P O. adds-told P O.ordered) e P O ∙ every-is P O.ordered }

  pub adds-holds : {k i : ℕ} → AddingUp k i → s.gens ≤ i → AddsUp s orders T k true
  adds-holds h l = record { is = λ P O. passed-all h l P O ∙ every-is P O.ordered }
