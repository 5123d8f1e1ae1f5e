-- What an extension is made with.
--
--   origin_of                   what the extensions of a representation are copied from, as the notes have it
--   factor_of                   the constant of a generator
--   power_of, reference_of       the power of the generator on top in a conjugate of it; the reference of a generator above it
--   Extends                    what is known of what is copied
--   Copies                     of this, what one generator asks for
--   copy_head, copy_piece        the head of the lines of one generator, and what is copied into them
--   copy_words, low_words        the words of one generator with a reference, and of the generators up to the one on top
--   extension_words, extensions_words      the words of one extension, and of all extensions
use Rattle.std.specs.Prelude.{List, [], cond, ◌≡◌, ℕ, suc, ◌+◌, ◌*◌, ◌/◌, ◌%◌, ◌≤◌, ◌<◌, get_or, eqb}
use Rattle.definitions.specs.Lists.{blocks}
use Rattle.definitions.specs.Presentation.{pair_number}
use Rattle.definitions.specs.Table.{rep_words}
use Rattle.formulas.specs.Formulas.{start, shift, extension_at}
use Rattle.level.specs.Stored.{line_in}
use Rattle.lines.specs.declared.Head.{Head}
use Rattle.lines.specs.declared.Piece.{Piece}
use Rattle.lines.specs.Lines.{block_lines}
use Rattle.survey.specs.declared.Frame.{Frame}
use Rattle.survey.specs.declared.Note.{Note}
use Rattle.survey.specs.Notes.{numbers, shifts}
use Rattle.survey.specs.Below.{source_in, listed_of, Located}
use Rattle.targets.specs.declared.Target.{Target}
use Rattle.targets.specs.Reached.{starts, landings, Aimed}
use Rattle.extend.specs.declared.Origin.{Origin}

abbrev pub origin_of : Frame → List ℕ → List Note → ℕ → Origin
origin_of f W notes r = record {
  rep = r;
  source = listed_of f W r;
  number = get_or (numbers notes) r 0;
  root = get_or (shifts notes) r 0 / f.p;
  step = f.m / f.p;
}

-- the constant of generator g in extension k
abbrev pub factor_of : Frame → Origin → ℕ → ℕ → ℕ
factor_of f o g k = cond (eqb g f.top) (o.root + k * o.step) 0

-- the exponent of the generator on top in its conjugate by generator g
abbrev pub power_of : Frame → List (List ℕ) → ℕ → ℕ
power_of f rows g = suc (get_or (get_or rows (pair_number g f.top) []) f.top 0)

-- the reference of a generator g above the one on top in extension k, from the number of the first extension of each target and
-- the number there
abbrev pub reference_of : Frame → List (List ℕ) → List Target → ℕ → ℕ → ℕ
reference_of f rows targets g k = get_or (starts targets) g 0 + (get_or (landings targets) g 0 + k * power_of f rows g) % f.p

-- the head of the lines of generator g in extension k, with reference x
abbrev pub copy_head : Frame → Origin → (k g x : ℕ) → Head
copy_head f o k g x = record { level = f.top + 1; rep = o.number + k; deg = o.source.deg; generator = g + 1; refn = x }

-- the matrix from line src on, multiplied by power c of the root
abbrev pub copy_piece : Origin → (src c : ℕ) → Piece
copy_piece o src c = record { src = src; deg = o.source.deg; col = 0; row = 0; by = c }

module _ (f : Frame) (W : List ℕ) (o : Origin) where
  -- what is copied stands in W, and the numbers and the constants of its extensions fit
  pub record Copies : Type 0 where
    pub located : Located f W o.rep o.source
    pub number_small : o.number ≤ 268435456
    pub factor_below : (k : ℕ) → k < f.p → o.root + k * o.step < f.m

  -- the words of generator g in extension k, with reference x
  unfoldable pub copy_words : (k g x : ℕ) → List ℕ
  copy_words k g x = block_lines f.m (copy_head f o k g x) (copy_piece o (line_in o.source g) (factor_of f o g k)) W

  -- the words of the generators up to the one on top in extension k, which have the number of what is extended as reference
  abbrev pub low_words : (k : ℕ) → List ℕ
  low_words k = blocks (suc f.top) (λ g. copy_words k g o.rep)

module _ (f : Frame) (W : List ℕ) (rows : List (List ℕ)) where
  -- what extensions are copied from, and where their intertwiners lead
  pub record Extends (targets : List Target) (o : Origin) : Type 0 where
    pub aimed : Aimed f W rows o.rep targets
    pub source_is : o.source ≡ listed_of f W o.rep
    pub number_is : o.number ≡ start (source_in f W rows) o.rep
    pub root_is : o.root ≡ shift (source_in f W rows) o.rep / f.p
    pub step_is : o.step ≡ f.m / f.p

  -- the words of extension k of r
  abbrev pub extension_words : (r k : ℕ) → List ℕ
  extension_words r k = rep_words f.gens (suc f.top) (start (source_in f W rows) r + k) (extension_at (source_in f W rows) r k)

  -- the words of the extensions of r
  unfoldable pub extensions_words : (r : ℕ) → List ℕ
  extensions_words r = blocks f.p (λ k. extension_words r k)
