-- What an induced representation is written with.
--
--   induction_of                what is induced from the orbit of r
--   number_above                the number of what a generator above the one on top takes it to
--   Writing, Moving            what is known where a generator of it is written, and where the blocks of that move
--   factor_in                   the constant of a block
--   still_in, cell_in            a block of a generator's matrix that stays, and one that may move
--   CellFits                   a block whose lines fit
--   head_of, piece_of, cell_words       the lines of a block
--   stills_in, still_words       those of the blocks of a generator, where they stay
--   cells_in, CellsWritten      and where they may move; that these are written
--   block_words, induced_words, induction_words      the same by the formulas, and those of the representation
use Rattle.std.specs.Prelude.{◌≡◌, List, [], ℕ, suc, ◌+◌, ◌*◌, ◌≤◌, ◌<◌, cond, get_or, eqb, ltb, leb}
use Rattle.definitions.specs.Lists.{blocks}
use Rattle.definitions.specs.Table.{line_of, rep_words}
use Rattle.formulas.specs.Formulas.{start, block_to, induction_at}
use Rattle.level.specs.Stored.{Holds}
use Rattle.lines.specs.declared.Head.{Head}
use Rattle.lines.specs.declared.Piece.{Piece}
use Rattle.lines.specs.Lines.{block_lines, Appended}
use Rattle.survey.specs.declared.Frame.{Frame}
use Rattle.survey.specs.declared.Note.{Note}
use Rattle.survey.specs.Notes.{numbers, shifts}
use Rattle.survey.specs.Below.{low_of, deg_of, target_of, matrix_of, source_in, leader_in, LevelStands}
use Rattle.orbits.specs.declared.Block.{Block}
use Rattle.orbits.specs.Blocks.{scalars, member_of, Listing}
use Rattle.induce.specs.declared.Induction.{Induction}
use Rattle.induce.specs.declared.Cell.{Cell}

abbrev pub induction_of : Frame → List ℕ → List Note → ℕ → Induction
induction_of f W notes r = record { leader = r; number = get_or (numbers notes) r 0; deg = deg_of f W r }

abbrev pub number_above : Frame → List ℕ → List Note → (g r : ℕ) → ℕ
number_above f W notes g r = get_or (numbers notes) (leader_in f W (target_of f W g r)) 0

pub record Writing (f : Frame) (W : List ℕ) (notes : List Note) (blocks : List Block) (i : Induction) (g : ℕ) : Type 0 where
  pub listing : Listing f W notes blocks i.leader
  pub degree : i.deg ≡ deg_of f W i.leader
  pub inside : g < f.gens

pub record Moving (f : Frame) (W : List ℕ) (notes : List Note) (blocks : List Block) (i : Induction) (g : ℕ) : Type 0 where
  pub writing : Writing f W notes blocks i g
  pub high : f.top ≤ g
  pub scalars_below : f.top < g → (b : ℕ) → b < f.p → get_or (scalars blocks) b 0 < f.m

-- ---- A block

-- the constant of block b for generator g, not below the one on top, from the shifts and the scalars
unfoldable pub factor_in : Frame → List Note → List Block → (r g b : ℕ) → ℕ
factor_in f notes blocks r g b = cond (eqb g f.top) (cond (ltb (suc b) f.p) 0 (get_or (shifts notes) r 0)) (get_or (scalars blocks) b 0)

-- block b of a generator that leaves it where it is
abbrev pub still_in : (f : Frame) → List ℕ → Induction → (g b : ℕ) → Cell
still_in f W i g b = let q = member_of f W i.leader b in record { src = matrix_of f W g q; from = b; to = b; by = 0; refn = q }

-- block b of generator g, where x is the reference of the generators above the one on top
abbrev pub cell_in : Frame → List ℕ → List Note → List Block → Induction → (g x b : ℕ) → Cell
cell_in f W notes blocks i g x b =
    let q = member_of f W i.leader b in
    record {
      src = matrix_of f W g q;
      from = b;
      to = block_to (source_in f W []) i.leader g b;
      by = factor_in f notes blocks i.leader g b;
      refn = cond (leb g f.top) q x;
    }

pub record CellFits (f : Frame) (W : List ℕ) (i : Induction) (q : Cell) : Type 0 where
  pub stands : LevelStands f W
  pub wide : f.p * i.deg ≤ 65536
  pub held : Holds f.m W q.src i.deg
  pub from_below : q.from < f.p
  pub to_below : q.to < f.p
  pub by_below : q.by < f.m

-- ---- Lines

abbrev pub head_of : Frame → Induction → (g x : ℕ) → Head
head_of f i g x = record { level = f.top + 1; rep = i.number; deg = f.p * i.deg; generator = g + 1; refn = x }

abbrev pub piece_of : Induction → Cell → Piece
piece_of i q = record { src = q.src; deg = i.deg; col = q.from * i.deg; row = q.to * i.deg; by = q.by }

abbrev pub cell_words : Frame → List ℕ → Induction → ℕ → Cell → List ℕ
cell_words f W i g q = block_lines f.m (head_of f i g q.refn) (piece_of i q) W

unfoldable pub stills_in : (f : Frame) → List ℕ → Induction → (g b : ℕ) → List ℕ
stills_in f W i g b = cell_words f W i g (still_in f W i g b)

abbrev pub still_words : (f : Frame) → List ℕ → Induction → ℕ → List ℕ
still_words f W i g = blocks f.p (stills_in f W i g)

unfoldable pub cells_in : Frame → List ℕ → List Note → List Block → Induction → (g x : ℕ) → ℕ → List ℕ
cells_in f W notes blocks i g x b = cell_words f W i g (cell_in f W notes blocks i g x b)

-- the blocks of generator g are written from line `at` up to line y
abbrev pub CellsWritten : Frame → List ℕ → List Note → List Block → Induction → (g x at : ℕ) → (words' : List ℕ) → (y : ℕ) → Type 0
CellsWritten f words notes blocks₁ i g x at words' y = Appended words at (blocks f.p (cells_in f (low_of f words) notes blocks₁ i g x)) words' y

-- ---- The formulas

module _ (f : Frame) (W : List ℕ) (rows : List (List ℕ)) where
  unfoldable pub block_words : Induction → (g b : ℕ) → List ℕ
  block_words i g b =
      let d = deg_of f W i.leader in
      blocks d (λ k. line_of (suc f.top) i.number (induction_at (source_in f W rows) i.leader) g (b * d + k))

  unfoldable pub induced_words : Induction → ℕ → List ℕ
  induced_words i g = blocks (f.p * deg_of f W i.leader) (λ c. line_of (suc f.top) i.number (induction_at (source_in f W rows) i.leader) g c)

  abbrev pub induction_words : ℕ → List ℕ
  induction_words r = rep_words f.gens (suc f.top) (start (source_in f W rows) r) (induction_at (source_in f W rows) r)
