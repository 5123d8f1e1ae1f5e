-- `survey_level` notes one field behind the other.
use mathlib.Core.Path.{refl}
use Rattle.survey.specs.Notes.{without_number}
use Rattle.survey.proofs.Notes.{kept, orbit_of, orbits_kept}
use Rattle.builder.proofs.Named.{surveyed}
use Rattle.builder.proofs.survey_level.Goals as goal

pub find_shifts-requires : goal.find_shifts-requires
find_shifts-requires c = (
  c.requires.0.stands,
  orbits_kept _ _ (kept orbit_of without_number _ _ c.count_numbers-x.ensures.value.1) c.mark_orbits.ensures.0,
  c.top-n.ensures,
)

pub returns : goal.returns
returns c =
    let N = c.count_numbers-x.ensures in
    record {
      value = N.value.0;
      surveyed = surveyed _ _ _ c.requires.0 c.mark_orbits.ensures.0 N.value.1 N.array c.find_shifts.ensures.beside
          refl c.word-u.ensures c.find_shifts.ensures.array;
    }
