-- The places of a walk over the heads of a table's lines.
--
--   orders_in orders i      the order of level i, in a list of them
--   Scoped s T            s tells how many lines T has, and how many generators, within the ceiling
--   HeadTold T at place kind c r     r tells whether line `at` has column c, level and number of `place`, degree and generator of `kind`
--   column_heads T p first d c n      the lines of column c of n generators, from line `first` on in steps of d, have their heads
--   ColumnRoom T first d n           these lines are there
--   starts_level T p        the line of p begins the next level
--   turned_to T p           the place p on the level that its line begins
--   behind n T p           the place behind the representation at p
--   InsideTable n T p           the lines of that representation are there
--   size_ok s ord p d       a representation of degree d at p is possible: its level, its degree and its lines
--   place_ok n T ord p      and they have their heads
--   Opened s ord T k       the first k representations are of level 1 and of degree 1, and have their heads
use Rattle.std.specs.Prelude.{◌≡◌, Bool, true, ◌&&◌, List, ℕ, suc, ◌+◌, ◌*◌, ◌≤◌, ◌<◌, leb, ltb, length, get_or}
use Rattle.definitions.specs.Lists.{all_below}
use Rattle.definitions.specs.Presentation.{max_generators}
use Rattle.definitions.specs.Table.{DEG, word_at, line_count}
use Rattle.heads.specs.Walk.{head_is, begins, next_level, next_rep, rep_heads}
use Rattle.seek.specs.declared.Scope.{Scope}
use Rattle.check_heads.specs.declared.Place.{Place}

abbrev pub orders_in : List ℕ → ℕ → ℕ
orders_in orders i = get_or orders i 0

pub record Scoped (s : Scope) (T : List ℕ) : Type 0 where
  pub lines_are : s.lines ≡ line_count T
  pub some : 0 < s.gens
  pub few : s.gens ≤ max_generators

pub record HeadTold (T : List ℕ) (at place kind c : ℕ) (r : Bool) : Type 0 where
  pub told : (i k d g : ℕ) → i < 4294967296 → d < 4294967296 → place ≡ i + k * 4294967296 → kind ≡ d + suc g * 4294967296
      → r ≡ head_is T at i k d g c

abbrev pub column_heads : List ℕ → Place → (first d c n : ℕ) → Bool
column_heads T p first d c n = all_below n (λ g. head_is T (first + g * d) p.level p.rep d g c)

abbrev pub ColumnRoom : List ℕ → (first d n : ℕ) → Type 0
ColumnRoom T first d n = (g : ℕ) → g < n → 8 * (first + g * d) + 8 ≤ length T

abbrev pub starts_level : List ℕ → Place → Bool
starts_level T p = begins T p.line p.level p.rep

abbrev pub turned_to : List ℕ → Place → Place
turned_to T p = record {
  line = p.line;
  level = next_level T p.line p.level p.rep;
  rep = next_rep T p.line p.level p.rep;
}

abbrev pub behind : ℕ → List ℕ → Place → Place
behind n T p = record { line = p.line + n * word_at T p.line DEG; level = p.level; rep = suc p.rep }

pub record InsideTable (n : ℕ) (T : List ℕ) (p : Place) : Type 0 where
  pub here : p.line < line_count T
  pub room : p.line + n * word_at T p.line DEG ≤ line_count T
  pub reps : p.rep ≤ p.line

unfoldable pub size_ok : Scope → (ℕ → ℕ) → Place → ℕ → Bool
size_ok s ord p d = leb p.level s.gens && ltb 0 d && leb (d * d) (ord p.level) && leb (p.line + s.gens * d) s.lines

abbrev pub place_ok : ℕ → List ℕ → (ℕ → ℕ) → Place → Bool
place_ok n T ord p = leb p.level n && rep_heads n T ord p.line p.level p.rep

pub record Opened (s : Scope) (ord : ℕ → ℕ) (T : List ℕ) (k : ℕ) : Type 0 where
  pub room : k * s.gens ≤ line_count T
  pub order : 0 < k → 0 < ord 1
  pub heads : (r g : ℕ) → r < k → g < s.gens → head_is T (r * s.gens + g) 1 r 1 g 0 ≡ true
