-- Laws of sums over buffers.
--
--   mixed-none, mixed-more     no number, and one more
use mathlib.Core.Path.{◌≡◌, refl, sym, ap, ap₂, ◌∙◌}
use mathlib.Core.List.{List}
use Prim.Native.Nat.{ℕ, suc, ◌+◌}
use native.Mathlib.Numerals.{add-one}
use lib.ListN.{get_or}
use Rattle.case_input.specs.Mixed.{mixed, mixed_to}

pub mixed-none : (ws : List ℕ) → mixed_to ws 0 ≡ 0
unfolding mixed_to
mixed-none ws = refl

step : (ws : List ℕ) (k : ℕ) → mixed_to ws (suc k) ≡ mixed (mixed_to ws k) (get_or ws k 0)
unfolding mixed_to
step ws k = refl

pub mixed-more : (ws : List ℕ) (k sum more r : ℕ) → sum ≡ mixed_to ws k → more ≡ get_or ws k 0 → r ≡ mixed sum more → r ≡ mixed_to ws (k + 1)
mixed-more ws k sum more r p q e = e ∙ ap₂ (λ (a b : ℕ). mixed a b) p q ∙ sym (step ws k) ∙ ap (mixed_to ws) (sym (add-one k))
