-- Laws of the part of a buffer that is lent.
--
--   part-take, part-drop    the part, and the rest, by the number asked for
use mathlib.Core.Path.{◌≡◌, refl, sym, ap, ◌∙◌}
use mathlib.Core.Logic.{by_cases}
use mathlib.Core.List.{List, [], ◌∷◌}
use Prim.Native.Nat.{ℕ, zero, suc, ◌≤◌}
use native.Mathlib.Decide.{dec_lt}
use native.Mathlib.Omega.{arith}
use lib.ListN.{length, take, drop}
use lib.Seq.{take_all}
use Rattle.case_input.specs.Part.{Part}

drop_past : (n : ℕ) (xs : List ℕ) → length xs ≤ n → drop n xs ≡ []
drop_past zero [] l = refl
drop_past zero (x ∷ xs) l = absurd (omega arith)
drop_past (suc n) [] l = refl
drop_past (suc n) (x ∷ xs) l = drop_past n xs (omega arith)

module _ {a len r : ℕ} (P : Part a len r) (xs : List ℕ) (q : length xs ≡ len) where
  pub part-take : take r xs ≡ take a xs
  part-take = by_cases (dec_lt len a)
      (λ l. take_all r xs (omega (arith, P.all l)) ∙ sym (take_all a xs (omega arith)))
      (λ l. ap (λ n. take n xs) (P.some (omega arith)))

  pub part-drop : drop r xs ≡ drop a xs
  part-drop = by_cases (dec_lt len a)
      (λ l. drop_past r xs (omega (arith, P.all l)) ∙ sym (drop_past a xs (omega arith)))
      (λ l. ap (λ n. drop n xs) (P.some (omega arith)))
