-- What stands in lines of words.
--
--   entry_in W l                row and exponent of line l
--   matrix_in W at d            the matrix of degree d whose lines start at line `at`
--   Below m d x                a basis index below d, and an exponent below m
--   Holds m W at d             d lines hold a matrix of degree d: rows that are a permutation, exponents below m
--   line_in D g                 the line of generator g of a representation
--   generator_in, target_in      its matrix, and where its intertwiner leads
--   listed_in W l               the representation that begins at line l
--   through_in                  the exponent of column 0 moved through a generator of one and, scaled, through one of another
--   Stored m n W D             the lines of D hold matrices for the first n generators
use Rattle.std.specs.Prelude.{◌≡◌, ℕ, ◌+◌, ◌*◌, ◌≤◌, ◌<◌, List, map, length}
use Rattle.definitions.specs.declared.Entry.{Entry}
use Rattle.definitions.specs.Lists.{upto}
use Rattle.definitions.specs.Monomial.{Matrix, entry, act}
use Rattle.definitions.specs.Table.{DEG, REF, ROW, EXP, word_at}
use Rattle.formulas.specs.Formulas.{plus}
use Rattle.level.specs.declared.Listed.{Listed}

abbrev pub entry_in : List ℕ → ℕ → Entry
entry_in W l = entry (word_at W l ROW) (word_at W l EXP)

abbrev pub matrix_in : List ℕ → ℕ → ℕ → Matrix
matrix_in W at d = map (λ (c : ℕ). entry_in W (at + c)) (upto d)

pub record Below (m d : ℕ) (x : Entry) : Type 0 where
  pub row : x.row < d
  pub exp : x.exp < m

pub record Holds (m : ℕ) (W : List ℕ) (at d : ℕ) : Type 0 where
  pub small : m ≤ 2147483648
  pub fits : 8 * (at + d) ≤ length W
  pub valid : (k : ℕ) → k < d → Below m d (entry_in W (at + k))
  pub distinct : (k l : ℕ) → k < d → l < d → (entry_in W (at + k)).row ≡ (entry_in W (at + l)).row → k ≡ l

-- ---- Representations

abbrev pub line_in : Listed → ℕ → ℕ
line_in D g = D.line + g * D.deg

abbrev pub generator_in : List ℕ → Listed → ℕ → Matrix
generator_in W D g = matrix_in W (line_in D g) D.deg

abbrev pub target_in : List ℕ → Listed → ℕ → ℕ
target_in W D g = word_at W (line_in D g) REF

abbrev pub listed_in : List ℕ → ℕ → Listed
listed_in W l = record { line = l; deg = word_at W l DEG }

abbrev pub through_in : ℕ → List ℕ → Listed → ℕ → Listed → ℕ → ℕ → ℕ
through_in m W D j E g c = (plus m c (act m (generator_in W E g) (act m (generator_in W D j) (entry 0 0)))).exp

pub record Stored (m n : ℕ) (W : List ℕ) (D : Listed) : Type 0 where
  pub positive : 0 < D.deg
  pub degree : word_at W D.line DEG ≡ D.deg
  pub holds : (g : ℕ) → g < n → Holds m W (line_in D g) D.deg
