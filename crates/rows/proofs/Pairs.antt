-- The numbers of pairs of generators, as the code finds them.
--
--   pair-below                     their bound
--   pair-power, pair-commutator    the number of (j, j), and of (j, i) for i < j
use mathlib.Core.Path.{◌≡◌, sym, ◌∙◌, ap}
use mathlib.Core.Logic.{◌≢◌}
use Prim.Native.Nat.{ℕ, suc, ◌+◌, ◌*◌, ◌/◌, ◌≤◌, ◌<◌}
use native.Mathlib.Omega.{arith}
use Rattle.definitions.specs.Lists.{sum}
use Rattle.definitions.specs.Presentation.{max_generators, pair_count, pair_number}
use Rattle.numbers.proofs.Lists.{triangle}
use Rattle.group.proofs.Pairs.{pair_number-power, pair_number-commutator, pair_number-below}

pub pair-below : (j i : ℕ) → i ≤ j → j < max_generators → pair_number j i < pair_count
unfolding sum
pair-below j i a b = pair_number-below max_generators j i a b

pub pair-power : (j : ℕ) → j * (j + 1) / 2 ≡ pair_number j j
pair-power j = triangle j ∙ sym (pair_number-power j)

pub pair-commutator : (j i : ℕ) → i ≤ j → i ≢ j → j * (j + 1) / 2 + i + 1 ≡ pair_number j i
pair-commutator j i a b = let e : sum j suc + i + 1 ≡ sum j suc + suc i = omega arith in
    ap (λ t. t + i + 1) (triangle j) ∙ e ∙ sym (pair_number-commutator j i (omega arith))
