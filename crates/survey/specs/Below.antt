-- A level that stands in words, and what is known of it before the next level is written.
--
--   low_of f W                  the lines up to the end of the level, in words that go on
--   first_of, deg_of, matrix_of, target_of      where representation r begins, its degree, the line of a generator, where an
--                              intertwiner leads
--   source_in                   the level, as the formulas ask for it
--   LevelStands f W                 the lines of a level stand in W as a build leaves them: bounds, valid matrices, targets of one
--                              degree, and orbits of the generator on top that close after p steps
--   listed_of, Located r D      representation r by its first line and degree; D is that one
--   Rows                       exponents of words in range
--   Array                      an array that holds a function below the number of representations
--   Leading                    one that holds it at the least of each orbit, and is below the modulus
--   Fixing                     what the generator on top fixes is led to what it fixes
--   Cycles, Cycling            generator j moves the blocks of an orbit around, each once; so do all above the one on top
--   Fixed, Leads               the generator on top fixes r; r is the least of an orbit that moves
--   Sound                      what is asked of a level before the next is made
--   made_in, number_in, around_in, closing_in, leading_in      the formulas, of this level
--   Lines, Orbited, Surveyed   notes that hold the first lines; and the orbits; and all that the next level is made with
--   FirstsTo, RunNoted         first lines while they are noted, and behind a run of one degree
--   MarkedTo, Marking          orbits while they are marked
--   CarriedAt, CarriedOn       an entry at a representation; a step along an orbit
use Rattle.std.specs.Prelude.{◌≡◌, ℕ, zero, suc, ◌+◌, ◌*◌, ◌/◌, ◌≤◌, ◌<◌, List, [], cond, length, get_or, take, eqb}
use Rattle.definitions.specs.Lists.{iter}
use Rattle.definitions.specs.Presentation.{max_generators, max_order, max_modulus, to_nf, pair_number}
use Rattle.definitions.specs.declared.Entry.{Entry}
use Rattle.definitions.specs.Monomial.{entry, less, act}
use Rattle.definitions.specs.Table.{DEG, REF, word_at}
use Rattle.numbers.proofs.Prime.{Units}
use Rattle.numbers.proofs.Orbits.{leader_of, position_of}
use Rattle.formulas.specs.Formulas.{Source, walk, made, start, around, shift, block_at}
use Rattle.level.specs.Stored.{matrix_in, Below, Holds}
use Rattle.level.specs.declared.Listed.{Listed}
use Rattle.survey.specs.Notes.{firsts, leaders, positions, numbers, shifts}
use Rattle.survey.specs.declared.Frame.{Frame}
use Rattle.survey.specs.declared.Carried.{Carried}
use Rattle.survey.specs.declared.NextFirst.{NextFirst}
use Rattle.survey.specs.declared.Note.{Note}

-- the lines up to the end of the level, in words that go on
abbrev pub low_of : Frame → List ℕ → List ℕ
low_of f W = take (8 * f.end) W

module _ (f : Frame) (W : List ℕ) where
  unfoldable pub first_of : ℕ → ℕ
  first_of zero = f.base
  first_of (suc r) = first_of r + f.gens * word_at W (first_of r) DEG

  abbrev pub deg_of : ℕ → ℕ
  deg_of r = word_at W (first_of r) DEG

  -- the line of column 0 of generator g
  abbrev pub matrix_of : ℕ → ℕ → ℕ
  matrix_of g r = first_of r + g * deg_of r

  abbrev pub target_of : ℕ → ℕ → ℕ
  target_of j r = word_at W (matrix_of j r) REF

  -- the generator on top fixes r
  abbrev pub Fixed : ℕ → Type 0
  Fixed r = target_of f.top r ≡ r

  abbrev pub listed_of : ℕ → Listed
  listed_of r = record { line = first_of r; deg = deg_of r }

  abbrev pub source_in : List (List ℕ) → Source
  source_in rows = record {
    m = f.m;
    i = f.top;
    p = f.p;
    u = to_nf f.top (get_or rows (pair_number f.top f.top) []);
    w = λ j. to_nf (suc f.top) (get_or rows (pair_number j f.top) []);
    count = f.reps;
    degree = deg_of;
    matrix = λ r g. matrix_in W (matrix_of g r) (deg_of r);
    target = target_of;
  }

  abbrev pub leader_in : ℕ → ℕ
  leader_in = leader_of f.reps f.p (target_of f.top)

  abbrev pub position_in : ℕ → ℕ
  position_in = position_of f.reps f.p (target_of f.top)

  -- the formulas of this level that ask for no words, or for a power word alone
  abbrev pub made_in : ℕ → ℕ
  made_in = made (source_in [])

  abbrev pub number_in : ℕ → ℕ
  number_in = start (source_in [])

  abbrev pub around_in : ℕ → ℕ → Entry
  around_in = around (source_in [])

  -- the constant of r for the row u of the power word
  unfoldable pub closing_in : List ℕ → ℕ → ℕ
  closing_in u r = less f.m (walk f.m ((source_in []).matrix r) f.top (to_nf f.top u) (entry 0 0)).exp (around_in r f.p).exp

  -- the same of the least of each orbit, and 0 elsewhere
  unfoldable pub leading_in : List ℕ → ℕ → ℕ
  leading_in u r = cond (eqb (leader_in r) r) (closing_in u r) 0

  pub record LevelStands : Type 0 where
    pub few : f.p * f.reps ≤ max_order
    pub gens : (f.top < f.gens) × (f.gens ≤ max_generators)
    pub prime : (1 < f.p) × (2 * f.p ≤ max_order)
    pub units : Units f.p
    pub modulus : (0 < f.m) × (f.m ≤ max_modulus)
    pub whole : f.m ≡ f.p * (f.m / f.p)
    pub short : (8 * f.end ≤ length W) × (f.end ≤ 16777216)
    pub inside : (r : ℕ) → r < f.reps → first_of (suc r) ≤ f.end
    pub wide : (r : ℕ) → r < f.reps → (0 < deg_of r) × (f.p * deg_of r ≤ 65536)
    pub valid : (r : ℕ) → r < f.reps → (g : ℕ) → g < f.gens → Holds f.m W (matrix_of g r) (deg_of r)
    pub target : (r : ℕ) → r < f.reps → (j : ℕ) → f.top ≤ j → j < f.gens → (target_of j r < f.reps) × (deg_of (target_of j r) ≡ deg_of r)
    pub cycle : (r : ℕ) → r < f.reps → iter (target_of f.top) f.p r ≡ r

  -- D is representation r of the level
  pub record Located (r : ℕ) (D : Listed) : Type 0 where
    pub stands : LevelStands
    pub listed : r < f.reps
    pub is : D ≡ listed_of r

  -- the exponents of the generator on top in its words with the generators above are below its prime
  pub record Rows (rows : List (List ℕ)) : Type 0 where
    pub below : (j : ℕ) → f.top < j → j < f.gens → get_or (get_or rows (pair_number j f.top) []) f.top 0 < f.p

  pub record Array (a : List ℕ) (g : ℕ → ℕ) : Type 0 where
    pub long : f.reps ≤ length a
    pub at : (r : ℕ) → r < f.reps → get_or a r 0 ≡ g r

  pub record Leading (a : List ℕ) (g : ℕ → ℕ) : Type 0 where
    pub long : f.reps ≤ length a
    pub at : (r : ℕ) → r < f.reps → leader_in r ≡ r → get_or a r 0 ≡ g r
    pub below : (r : ℕ) → r < f.reps → get_or a r 0 < f.m

  -- generators above the one on top lead what that fixes to what it fixes
  pub record Fixing : Type 0 where
    pub stays : (r : ℕ) → r < f.reps → target_of f.top r ≡ r → (j : ℕ) → f.top < j → j < f.gens → target_of f.top (target_of j r) ≡ target_of j r

  -- from block 0 on, p steps of generator j visit every block of the orbit of r, and none twice
  pub record Cycles (rows : List (List ℕ)) (j r : ℕ) : Type 0 where
    pub visits : (b : ℕ) → b < f.p → (t : ℕ) × (t < f.p) × (block_at (source_in rows) j r t ≡ b)
    pub once : (t t' : ℕ) → t < f.p → t' < f.p → block_at (source_in rows) j r t ≡ block_at (source_in rows) j r t' → t ≡ t'

  -- the least of every orbit that moves is so for every generator above the one on top
  abbrev pub Cycling : List (List ℕ) → Type 0
  Cycling rows = (r : ℕ) → r < f.reps → ¬ (target_of f.top r ≡ r) → leader_in r ≡ r → (j : ℕ) → f.top < j → j < f.gens → Cycles rows j r

  pub record Sound (rows : List (List ℕ)) : Type 0 where
    pub stands : LevelStands
    pub words : Rows rows
    pub cycles : Cycling rows
    pub fixes : Fixing

  -- r is the least of an orbit that moves
  pub record Leads (r : ℕ) : Type 0 where
    pub listed : r < f.reps
    pub moves : ¬ Fixed r
    pub led : leader_in r ≡ r

  -- ---- Notes

  abbrev pub Lines : List ℕ → Type 0
  Lines first = Array first first_of

  pub record Orbited (notes : List Note) : Type 0 where
    pub lines : Lines (firsts notes)
    pub leaders_are : Array (leaders notes) leader_in
    pub places_are : Array (positions notes) position_in

  pub record Surveyed (rows : List (List ℕ)) (notes : List Note) : Type 0 where
    pub sound : Sound rows
    pub orbited : Orbited notes
    pub numbers_are : Array (numbers notes) (start (source_in rows))
    pub shifts_are : Leading (shifts notes) (shift (source_in rows))

  -- ---- First lines while they are noted

  -- those of the representations before r are, and there is room for all
  pub record FirstsTo (notes : List Note) (r : ℕ) : Type 0 where
    pub long : f.reps ≤ length (firsts notes)
    pub at : (k : ℕ) → k < r → get_or (firsts notes) k 0 ≡ first_of k

  -- those from representation r on are noted as well, up to that which e names
  pub record RunNoted (notes₀ notes : List Note) (r : ℕ) (e : NextFirst) : Type 0 where
    pub forth : r < e.rep
    pub within : e.rep ≤ f.reps
    pub len : length notes ≡ length notes₀
    pub noted : FirstsTo notes e.rep
    pub behind : e.line ≡ first_of e.rep

  -- ---- Orbits while they are marked

  -- every member of an orbit before that of r is marked, so are the first k members of that of r; each other is its own leader
  pub record MarkedTo (leaders places : List ℕ) (r k : ℕ) : Type 0 where
    pub long : (f.reps ≤ length leaders) × (f.reps ≤ length places)
    pub earlier : (q : ℕ) → q < f.reps → leader_in q < r → (get_or leaders q 0 ≡ leader_in q) × (get_or places q 0 ≡ position_in q)
    pub these : (q : ℕ) → q < f.reps → leader_in q ≡ r → position_in q < k → (get_or leaders q 0 ≡ r) × (get_or places q 0 ≡ position_in q)
    pub later : (q : ℕ) → q < f.reps → leader_in q ≡ r → k ≤ position_in q → get_or leaders q 0 ≡ q
    pub others : (q : ℕ) → q < f.reps → r < leader_in q → get_or leaders q 0 ≡ q

  -- the same in notes that have kept their first lines
  pub record Marking (notes₀ notes : List Note) (r k : ℕ) : Type 0 where
    pub marks : MarkedTo (leaders notes) (positions notes) r k
    pub lines : firsts notes ≡ firsts notes₀
    pub len : length notes ≡ length notes₀

-- an entry at a representation of degree d
pub record CarriedAt (f : Frame) (W : List ℕ) (d : ℕ) (s : Carried) : Type 0 where
  pub rep_below : s.rep < f.reps
  pub same_degree : d ≡ deg_of f W s.rep
  pub entry_below : Below f.m d s.x

-- an entry taken one step along the orbit
pub record CarriedOn (f : Frame) (W : List ℕ) (d : ℕ) (s t : Carried) : Type 0 where
  pub rep_is : t.rep ≡ target_of f W f.top s.rep
  pub entry_is : t.x ≡ act f.m ((source_in f W []).matrix s.rep f.top) s.x
  pub carried : CarriedAt f W d t
