-- The two sides of an intertwiner's equation at column 0 of a block, with the constants as they are noted.
--
--   moved_of                    an entry in a block, as the formulas have it
--   Lies, EntryIs              it is within bounds; it is the entry x of the formulas, and within bounds
--   cycle_in                    one step of the generator on top, with the constant c of the orbit
--   conjugate_in                column 0 of a block moved by j⁻¹ g j, with the word v of the two
--   left_in                     an entry moved by the intertwiner of j
--   constant_in                 the constant of the generator on top behind a representation of an orbit
--   right_in                    column 0 of a block moved by the intertwiner of j, and then by the generator on top
--   NextScalar                 the scalar of the next block
use Rattle.std.specs.Prelude.{◌≡◌, List, ℕ, suc, ◌+◌, ◌%◌, ◌<◌, cond, get_or, ltb}
use Rattle.definitions.specs.Lists.{iter}
use Rattle.definitions.specs.Presentation.{to_nf}
use Rattle.definitions.specs.Monomial.{entry, less, act}
use Rattle.formulas.specs.Formulas.{Moved, plus, walk, conjugate_entry, left_at, right_at}
use Rattle.level.specs.Stored.{Below}
use Rattle.survey.specs.declared.Frame.{Frame}
use Rattle.survey.specs.declared.Note.{Note}
use Rattle.survey.specs.Notes.{leaders, positions, shifts}
use Rattle.survey.specs.Below.{deg_of, target_of, source_in}
use Rattle.orbits.specs.Blocks.{member_of, matrix_at}
use Rattle.orbits.specs.declared.BlockEntry.{BlockEntry}
use Rattle.orbits.specs.declared.BlockScalar.{BlockScalar}

abbrev pub moved_of : BlockEntry → Moved
moved_of s = record { block = s.block; at = s.x }

module _ (f : Frame) (W : List ℕ) where
  pub record Lies (r : ℕ) (s : BlockEntry) : Type 0 where
    pub block_below : s.block < f.p
    pub entry_below : Below f.m (deg_of f W r) s.x

  pub record EntryIs (r : ℕ) (x : Moved) (s : BlockEntry) : Type 0 where
    pub is : moved_of s ≡ x
    pub lies : Lies r s

  unfoldable pub cycle_in : (c r : ℕ) → Moved → Moved
  cycle_in c r x = record {
    block = cond (ltb (suc x.block) f.p) (suc x.block) 0;
    at = plus f.m (cond (ltb (suc x.block) f.p) 0 c) (act f.m (matrix_at f W (member_of f W r x.block) f.top) x.at);
  }

  unfoldable pub conjugate_in : (c : ℕ) → List ℕ → (r b : ℕ) → Moved
  conjugate_in c v r b =
      let x = walk f.m (matrix_at f W (member_of f W r b)) f.top (to_nf f.top v) (entry 0 0) in
      iter (cycle_in c r) (suc (get_or v f.top 0)) (record { block = b; at = x })

  unfoldable pub left_in : (j r : ℕ) → Moved → ℕ
  left_in j r x = (act f.m (matrix_at f W (member_of f W r x.block) j) x.at).exp

unfoldable pub constant_in : Frame → List Note → ℕ → ℕ
constant_in f notes q = cond (ltb (suc (get_or (positions notes) q 0)) f.p) 0 (get_or (shifts notes) (get_or (leaders notes) q 0) 0)

unfoldable pub right_in : (f : Frame) → List ℕ → List Note → (j r b : ℕ) → ℕ
right_in f W notes j r b =
    let t = member_of f W r b in
    let q = target_of f W j t in
    (plus f.m (constant_in f notes q) (act f.m (matrix_at f W q f.top) (act f.m (matrix_at f W t j) (entry 0 0)))).exp

-- from one block along the generator on top to the next, and its scalar
pub record NextScalar (f : Frame) (W : List ℕ) (rows : List (List ℕ)) (j r : ℕ) (s t : BlockScalar) : Type 0 where
  pub block_is : t.block ≡ (conjugate_entry (source_in f W rows) j r s.block).block
  pub scalar_is : t.exp ≡ less f.m ((s.exp + right_at (source_in f W rows) j r s.block) % f.m) (left_at (source_in f W rows) j r s.block)
  pub block_below : t.block < f.p
  pub scalar_below : t.exp < f.m
