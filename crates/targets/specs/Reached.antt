-- Where the intertwiners lead the extensions of a representation.
--
--   conjugated_in               column 0 of a representation moved by the generators of a word, the highest scaled
--   Lands                      what is known where the intertwiner of a generator leads a representation that the generator on top fixes
--   starts, landings           the fields of targets
--   Targeted                   the targets above the generator on top and below j hold the first extension of the target, and the number there
--   Aimed                      so do all above the generator on top, of a level that is sound
use Rattle.std.specs.Prelude.{List, map, ◌≡◌, ℕ, suc, ◌≤◌, ◌<◌, length, get_or}
use Rattle.definitions.specs.declared.Entry.{Entry}
use Rattle.definitions.specs.Lists.{iter}
use Rattle.definitions.specs.Presentation.{to_nf}
use Rattle.definitions.specs.Monomial.{entry, act}
use Rattle.formulas.specs.Formulas.{walk, plus, start, landing}
use Rattle.level.specs.declared.Listed.{Listed}
use Rattle.level.specs.Stored.{generator_in}
use Rattle.survey.specs.declared.Frame.{Frame}
use Rattle.survey.specs.declared.Note.{Note}
use Rattle.survey.specs.Below.{target_of, source_in, Located, Fixed, Sound, Surveyed}
use Rattle.targets.specs.declared.Target.{Target}

unfoldable pub conjugated_in : (m g : ℕ) → List ℕ → Listed → List ℕ → ℕ → Entry
conjugated_in m g W D w c =
    iter (λ y. plus m c (act m (generator_in W D g) y)) (suc (get_or w g 0)) (walk m (generator_in W D) g (to_nf g w) (entry 0 0))

pub record Lands (f : Frame) (W : List ℕ) (rows : List (List ℕ)) (notes : List Note) (r : ℕ) (D : Listed) (j : ℕ) : Type 0 where
  pub surveyed : Surveyed f W rows notes
  pub located : Located f W r D
  pub fixed : Fixed f W r
  pub above : f.top < j
  pub inside : j < f.gens

abbrev pub starts : List Target → List ℕ
starts = map (λ t. t.start)

abbrev pub landings : List Target → List ℕ
landings = map (λ t. t.landing)

module _ (f : Frame) (W : List ℕ) (rows : List (List ℕ)) (r : ℕ) where
  pub record Targeted (targets : List Target) (j : ℕ) : Type 0 where
    pub starts_are : (k : ℕ) → f.top < k → k < j → get_or (starts targets) k 0 ≡ start (source_in f W rows) (target_of f W k r)
    pub landings_are : (k : ℕ) → f.top < k → k < j → get_or (landings targets) k 0 ≡ landing (source_in f W rows) k r

  -- what is known where the extensions of r are written
  pub record Aimed (targets : List Target) : Type 0 where
    pub sound : Sound f W rows
    pub listed : r < f.reps
    pub long : f.gens ≤ length targets
    pub targeted : Targeted targets f.gens
