-- The pair of the next line.
--
--   next-inner, next-generator, next-first, next_power     the four ways to go on from a pair
use mathlib.Core.Path.{◌≡◌, ap, ◌∙◌}
use Prim.Native.Nat.{ℕ, suc, ◌+◌, ◌<◌, ◌≤◌}
use native.Mathlib.Numerals.{add-one}
use native.Mathlib.Omega.{arith}
use Rattle.definitions.specs.Lists.{sum}
use Rattle.definitions.specs.Presentation.{pair_number}
use Rattle.numbers.proofs.Sums.{sum-suc}
use Rattle.group.proofs.Pairs.{pair_number-power, pair_number-commutator}

-- from (j, i) to (j, i + 1)
pub next-inner : (j i : ℕ) → i + 1 < j → pair_number j (i + 1) ≡ pair_number j i + 1
next-inner j i l = omega (arith, pair_number-commutator j (i + 1) l, pair_number-commutator j i (omega arith))

-- from the last pair of j to (j + 1, j + 1)
pub next-generator : (j i : ℕ) → i < j → j ≤ i + 1 → pair_number (j + 1) (j + 1) ≡ pair_number j i + 1
next-generator j i l m =
    pair_number-power (j + 1) ∙ ap (λ (k : ℕ). sum k suc) (add-one j) ∙ sum-suc j suc ∙ omega (arith, pair_number-commutator j i l)

-- the first generator has one pair
pub next-first : (j i : ℕ) → j ≡ 0 → i ≡ j → pair_number 1 1 ≡ pair_number j i + 1
unfolding sum
next-first j i q r =
    let e : pair_number j i ≡ pair_number 0 0 = ap (pair_number j) (r ∙ q) ∙ ap (λ (k : ℕ). pair_number k 0) q in
    omega (arith, pair_number-power 1, pair_number-power 0)

-- from (j, j) to (j, 0)
pub next_power : (j i : ℕ) → 0 < j → i ≡ j → pair_number j 0 ≡ pair_number j i + 1
next_power j i l q = omega (arith, ap (pair_number j) q, pair_number-power j, pair_number-commutator j 0 l)
