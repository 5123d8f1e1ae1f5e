-- What making a level asks, and what it leaves.
--
--   LevelAsked f words rows            the level below stands in the words, is sound, and there is room behind it
--   BlocksLent f blocks                where there are representations enough for an orbit that moves, there is room for each block
--   LevelMade f words rows t words'    the level is written, and t tells where it ends and how many representations it has
use Rattle.std.specs.Prelude.{◌≡◌, List, ℕ, ◌+◌, ◌*◌, ◌≤◌, length}
use Rattle.text.specs.Writing.{Wrote}
use Rattle.survey.specs.declared.Frame.{Frame}
use Rattle.survey.specs.Below.{low_of, number_in, Sound}
use Rattle.orbits.specs.declared.Block.{Block}
use Rattle.builder.specs.declared.Written.{Written}
use Rattle.builder.specs.Above.{next_words}

pub record LevelAsked (f : Frame) (words : List ℕ) (rows : List (List ℕ)) : Type 0 where
  pub sound : Sound f (low_of f words) rows
  pub room : 8 * f.end + length (next_words f (low_of f words) rows) ≤ length words

abbrev pub BlocksLent : Frame → List Block → Type 0
BlocksLent f blocks = f.p ≤ f.reps → f.p ≤ length blocks

pub record LevelMade (f : Frame) (words : List ℕ) (rows : List (List ℕ)) (t : Written) (words' : List ℕ) : Type 0 where
  pub wrote : Wrote words (8 * f.end) (next_words f (low_of f words) rows) words' (8 * t.end)
  pub reps_is : t.reps ≡ number_in f (low_of f words) f.reps
