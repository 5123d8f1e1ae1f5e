-- Notes of a level, as the formulas name what they hold.
--
--   numbers-named, shifts-named      numbers and shifts do not depend on other rows than are read
--   surveyed                   orbits, then numbers, then shifts noted: the level is surveyed
use mathlib.Core.Path.{◌≡◌, refl, sym, ◌∙◌, ap, subst}
use mathlib.Core.List.{List, []}
use Prim.Native.Nat.{ℕ, ◌<◌}
use lib.ListN.{get_or}
use Rattle.definitions.specs.Presentation.{pair_number}
use Rattle.formulas.specs.Formulas.{start, made, shift}
use Rattle.survey.specs.declared.Frame.{Frame}
use Rattle.survey.specs.declared.Note.{Note}
use Rattle.survey.specs.Notes.{numbers, shifts, without_number, without_shift, Beside}
use Rattle.survey.specs.Below.{source_in, number_in, closing_in, leading_in, LevelStands, Array, Leading, Sound, Orbited, Surveyed}
use Rattle.survey.proofs.Notes.{kept, orbit_of, orbits_kept}
use Rattle.survey.proofs.Counting.{leading-least, leading-below}
use Rattle.targets.proofs.Targets.{shift-closing}

module _ (f : Frame) (W : List ℕ) (rows : List (List ℕ)) (a : List ℕ) where
  start-rows : (r : ℕ) → start (source_in f W []) r ≡ start (source_in f W rows) r
  unfolding start made
  start-rows r = refl

  pub numbers-named : Array f W a (number_in f W) → Array f W a (start (source_in f W rows))
  numbers-named A = record { long = A.long; at = λ r l. A.at r l ∙ start-rows r }

  pub shifts-named : LevelStands f W → (u : List ℕ) → u ≡ get_or rows (pair_number f.top f.top) [] → Array f W a (leading_in f W u) → Leading f W a (shift (source_in f W rows))
  shifts-named S u e A = record {
    long = A.long;
    at = λ r l d. A.at r l ∙ leading-least f W u r d ∙ ap (λ v. closing_in f W v r) e ∙ sym (shift-closing f W rows r);
    below = λ r l. subst (λ x. x < f.m) (sym (A.at r l)) (leading-below f W S.modulus.0 u r);
  }

module _ {f : Frame} {W : List ℕ} {rows : List (List ℕ)} (a b c : List Note) where
  -- a has the orbits, b the numbers too, and c the shifts of the power word u
  pub surveyed : Sound f W rows → Orbited f W a → Beside without_number a b → Array f W (numbers b) (number_in f W) → Beside without_shift b c
      → {u : List ℕ} {t : ℕ} → t ≡ f.top → u ≡ get_or rows (pair_number t t) [] → Array f W (shifts c) (leading_in f W u) → Surveyed f W rows c
  surveyed S O B N B' {u} {t} e w H = record {
    sound = S;
    orbited = orbits_kept b c (kept orbit_of without_shift b c B') (orbits_kept a b (kept orbit_of without_number a b B) O);
    numbers_are = numbers-named f W rows _ (subst (λ x. Array f W x (number_in f W)) (sym (kept (λ n. n.number) without_shift b c B')) N);
    shifts_are = shifts-named f W rows _ S.stands u (w ∙ ap (λ t. get_or rows (pair_number t t) []) e) H;
  }
