-- The pairs of generators in the order of the lines of a text, and their numbers.
--
--   length-pairs_of, length_pairs     how many pairs a generator has, and how many there are
--   pair_number-power, pair_number-commutator    the number of (j, j), and of (j, i) for i < j
--   pair_number-below                 a pair of generators below n has a number below the count
--   PairAt n r, pair-at              every number below the count is that of a pair
use mathlib.Core.Path.{◌≡◌, refl, sym, ◌∙◌, ap}
use mathlib.Core.Logic.{by_cases}
use Prim.Native.Nat.{ℕ, zero, suc, ◌+◌, ◌-◌, ◌≤◌, ◌<◌}
use native.Mathlib.Omega.{arith}
use native.Mathlib.Decide.{ℕ_discrete}
use lib.ListN.{length, length-map}
use Rattle.definitions.specs.Lists.{upto, sum}
use Rattle.definitions.specs.Presentation.{pairs_of, pairs, pair_number}
use Rattle.numbers.proofs.Bools.{compared, cond-eq, cond-ne}
use Rattle.numbers.proofs.Lists.{length-upto, length-blocks, sum-ext, sum_mono}
use Rattle.numbers.proofs.Sums.{sum-suc}

pub length-pairs_of : (j : ℕ) → length (pairs_of j) ≡ suc j
unfolding pairs_of
length-pairs_of j = ap suc (length-map (upto j) _ ∙ length-upto j)

pub length_pairs : (n : ℕ) → length (pairs n) ≡ sum n suc
unfolding pairs
length_pairs n = length-blocks n pairs_of ∙ sum-ext n (λ j. length (pairs_of j)) suc length-pairs_of

pub pair_number-power : (j : ℕ) → pair_number j j ≡ sum j suc
unfolding pair_number
pair_number-power j = ap (λ t. sum j suc + t) (cond-eq j j 0 (suc j) refl) ∙ omega arith

pub pair_number-commutator : (j i : ℕ) → i < j → pair_number j i ≡ sum j suc + suc i
unfolding pair_number
pair_number-commutator j i l = ap (λ t. sum j suc + t) (cond-ne i j 0 (suc i) (λ q. omega arith))

pub pair_number-below : (n j i : ℕ) → i ≤ j → j < n → pair_number j i < sum n suc
pair_number-below n j i a b =
    let top = sum_mono (suc j) n suc b in
    by_cases (ℕ_discrete i j) (λ q. omega (arith, sum-suc j suc, ap (pair_number j) q ∙ pair_number-power j))
    (λ q. omega (arith, sum-suc j suc, pair_number-commutator j i (omega arith)))

pub record PairAt (n r : ℕ) : Type 0 where
  pub j : ℕ
  pub i : ℕ
  pub j_below : j < n
  pub i_below : i < suc j
  pub is : pair_number j i ≡ r

pub pair-at : (n r : ℕ) → r < sum n suc → PairAt n r
unfolding sum
pair-at zero r l = absurd (omega arith)
pair-at (suc n) r l = compared r (sum n suc)
    (λ h. let q = pair-at n r h in record { j = q.j; i = q.i; j_below = omega (arith, q.j_below); i_below = q.i_below; is = q.is })
    (λ e. record { j = n; i = n; j_below = omega arith; i_below = omega arith; is = pair_number-power n ∙ sym e })
    (λ h. let i : ℕ = r - sum n suc - 1 in
    record { j = n; i = i; j_below = omega arith; i_below = omega arith; is = pair_number-commutator n i (omega arith) ∙ omega arith })
