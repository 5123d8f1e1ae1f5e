-- The blocks of a representation that stands in lines, compared with what they refer to.
--
--   block o x F                  the block from column o on, which refers to F by number x
--   Present s T D                the lines of D are there
--   Based s T D B                and the block has room in D, and refers to lines that hold matrices
--   Lower s T D B top            the generators below the top act on the block as on what it refers to
--   row_to T D B g                the first row of the block to which generator g takes the block
--   TakesBlock s T D E B g x     generator g takes the block of D to a block of E as it takes what the block refers to, up to a power of
--                                the root
--   Upper s T g D B j            a generator above the top does so, to a representation of the same degree and width
--   Uppers s T g D B             all of them do
--   BlockFits s T g D o w        every generator does so, on the block of width w from column o on
--   Wide s T g D w               D is one block of width w, or p blocks the first of which generator i moves
--   Proper s T D w               D is one block of width w, or its matrices are valid
--   RepFits s T g D              every block of D
use Rattle.std.specs.Prelude.{◌≡◌, true, ◌⊎◌, List, ℕ, suc, ◌+◌, ◌*◌, ◌/◌, ◌≤◌, ◌<◌}
use Rattle.definitions.specs.Lists.{all_below}
use Rattle.definitions.specs.Monomial.{less, valid}
use Rattle.definitions.specs.Table.{REF, word_at, line_count}
use Rattle.level.specs.declared.Listed.{Listed}
use Rattle.level.specs.Stored.{entry_in, line_in, generator_in, target_in, Stored}
use Rattle.seek.specs.declared.Scope.{Scope}
use Rattle.seek.specs.Seek.{Found}
use Rattle.compare.specs.declared.Stage.{Stage}
use Rattle.compare.specs.declared.Stretch.{Stretch}
use Rattle.compare.specs.Shifted.{shift, Shifted}
use Rattle.compare.specs.Staged.{max_lines}

abbrev pub block : ℕ → ℕ → Listed → Stretch
block o x F = record { start = o; refn = x; part = F }

pub record Present (s : Scope) (T : List ℕ) (D : Listed) : Type 0 where
  pub room : D.line + s.gens * D.deg ≤ line_count T
  pub positive : 0 < D.deg
  pub narrow : D.deg ≤ max_lines

pub record Based (s : Scope) (T : List ℕ) (D : Listed) (B : Stretch) : Type 0 where
  pub inside : Present s T D
  pub within : B.start + B.part.deg ≤ D.deg
  pub modulus : 0 < s.m
  pub stored : Stored s.m s.gens T B.part

pub record Lower (s : Scope) (T : List ℕ) (D : Listed) (B : Stretch) (top : ℕ) : Type 0 where
  pub each : (h : ℕ) → h < top → Shifted s.m T (line_in D h + B.start) (line_in B.part h) B.part.deg (shift B.refn B.start 0)

-- one block of width w, or valid matrices
pub record Proper (s : Scope) (T : List ℕ) (D : Listed) (w : ℕ) : Type 0 where
  pub valid : ¬ (D.deg ≡ w) → all_below s.gens (λ g. valid s.m D.deg (generator_in T D g)) ≡ true

abbrev pub row_to : List ℕ → Listed → Stretch → ℕ → ℕ
row_to T D B g = (entry_in T (line_in D g + B.start)).row / B.part.deg * B.part.deg

pub record TakesBlock (s : Scope) (T : List ℕ) (D E : Listed) (B : Stretch) (g x : ℕ) : Type 0 where
  pub lands : (entry_in T (line_in D g + B.start)).row < D.deg
  pub leads : word_at T (E.line + row_to T D B g) REF ≡ target_in T B.part g
  pub shifted : Shifted s.m T (line_in D g + B.start) (line_in B.part g) B.part.deg
      (shift x (row_to T D B g) (less s.m (entry_in T (line_in D g + B.start)).exp (entry_in T (line_in B.part g)).exp))

module _ (s : Scope) (T : List ℕ) (g : Stage) (D : Listed) where
  pub record Upper (B : Stretch) (j : ℕ) : Type 0 where
    pub target : Listed
    pub found : Found s.gens T (suc g.top) (target_in T D j) target
    pub degree : target.deg ≡ D.deg
    pub first : Listed
    pub refers : Found s.gens T g.top (word_at T target.line REF) first
    pub width : first.deg ≡ B.part.deg
    pub carried : TakesBlock s T D target B j (target_in T D j)

  pub record Uppers (B : Stretch) : Type 0 where
    pub each : (j : ℕ) → g.top < j → j < s.gens → Upper B j

  abbrev pub ref_at : ℕ → ℕ
  ref_at o = word_at T (D.line + o) REF

  pub record BlockFits (o w : ℕ) : Type 0 where
    pub part : Listed
    pub found : Found s.gens T g.top (ref_at o) part
    pub width : part.deg ≡ w
    pub lower : Lower s T D (block o (ref_at o) part) g.top
    pub top : TakesBlock s T D D (block o (ref_at o) part) g.top (ref_at o)
    pub upper : Uppers (block o (ref_at o) part)

  pub record Wide (w : ℕ) : Type 0 where
    pub first : Listed
    pub found : Found s.gens T g.top (word_at T D.line REF) first
    pub width : first.deg ≡ w
    pub split : (D.deg ≡ w) ⊎ ((D.deg ≡ g.p * w) × ¬ (target_in T first g.top ≡ word_at T D.line REF))

  pub record RepFits : Type 0 where
    pub w : ℕ
    pub wide : Wide w
    pub proper : Proper s T D w
    pub blocks : (k : ℕ) → k * w < D.deg → BlockFits (k * w) w
