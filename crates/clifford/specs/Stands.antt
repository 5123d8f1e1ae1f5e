-- A level of the definitions, a list of representations with lists of columns, stands on a family of maps.
--
--   frame              the numbers of the basis indices of a level
--   Stands             its matrices and references show a family
--   Restricts          a representation is cut into blocks that act as representations of the level below
--   Rung               a level that stands, and what the step from it needs
use Rattle.std.specs.Prelude.{◌≡◌, ℕ, suc, ◌+◌, ◌*◌, ◌≤◌, ◌<◌, length}
use Rattle.definitions.specs.Lists.{sum}
use Rattle.definitions.specs.Presentation.{order}
use Rattle.definitions.specs.Monomial.{entry, col, Rep, Level, rep_of}
use Rattle.numbers.proofs.Prime.{Units}
use Rattle.group.specs.Context.{Context}
use Rattle.group.proofs.Level.{level, conj_nf, gen_nf}
use Rattle.group.proofs.Group.{TestedContext}
use Rattle.monomial.specs.Families.{Family}
use Rattle.monomial.specs.Frames.{Layout, Complete, Shows}
use Rattle.monomial.proofs.Residues.{residues}

abbrev pub frame : (L : Level) {Ω : Type 0} (rep column : Ω → ℕ) → ((a : Ω) → column a < (rep_of L (rep a)).deg) → Layout Ω
frame L rep column h = record { rep = rep; column = column; degree = λ r. (rep_of L r).deg; column_below = h }

pub record Stands (C : Context) (n m : ℕ) (pos : 0 < m) (i : ℕ) (L : Level) {Ω : Type 0}
    (F : Family (residues m pos) Ω (level C i) (conj_nf C i) i n) : Type 0 where
  pub column : Ω → ℕ
  pub column_below : (a : Ω) → column a < (rep_of L (F.rep a)).deg
  pub complete : Complete (frame L F.rep column column_below) (length L)
  pub represents : (k : ℕ) → k < i → (r : ℕ) → r < length L → Shows m (frame L F.rep column column_below) r r ((rep_of L r).matrix k) (F.d (gen_nf C i k))
  pub intertwines : (j : ℕ) → i ≤ j → j < n → (r : ℕ) → r < length L
      → Shows m (frame L F.rep column column_below) r (F.target j r) ((rep_of L r).matrix j) (F.X j)
  pub refers : (j : ℕ) → i ≤ j → j < n → (r : ℕ) → r < length L → (c : ℕ) → c < (rep_of L r).deg → (rep_of L r).ref j c ≡ F.target j r
  pub nonempty : 0 < length L
  pub degree_pos : (r : ℕ) → r < length L → 0 < (rep_of L r).deg
  pub degree_target : (j : ℕ) → i ≤ j → j < n → (r : ℕ) → r < length L → (rep_of L (F.target j r)).deg ≡ (rep_of L r).deg
  pub squares : sum (length L) (λ r. (rep_of L r).deg * (rep_of L r).deg) ≡ order C.P i

pub record Restricts (i : ℕ) (low : Level) (D : Rep) : Type 0 where
  -- count blocks of one width; block b is that of representation part b
  pub count : ℕ
  pub width : ℕ
  pub part : ℕ → ℕ
  pub width_pos : 0 < width
  pub part_below : (b : ℕ) → b < count → part b < length low
  pub part_degree : (b : ℕ) → b < count → (rep_of low (part b)).deg ≡ width
  pub degree : D.deg ≡ count * width
  pub refers : (g : ℕ) → g < suc i → (b c : ℕ) → b < count → c < width → D.ref g (b * width + c) ≡ part b
  pub acts : (k : ℕ) → k < i → (b c : ℕ) → b < count → c < width
      → col (D.matrix k) (b * width + c) ≡ entry (b * width + (col ((rep_of low (part b)).matrix k) c).row) (col ((rep_of low (part b)).matrix k) c).exp

pub record Rung : Type 1 where
  pub T : TestedContext
  pub m : ℕ
  pub pos : 0 < m
  pub i : ℕ
  pub in_range : i < T.n
  pub L : Level
  pub Ω : Type 0
  pub F : Family (residues m pos) Ω (level T.context i) (conj_nf T.context i) i T.n
  pub stands : Stands T.context T.n m pos i L F
  -- the targets are the references of the level, also beyond its representations
  pub literal : (j r : ℕ) → F.target j r ≡ (rep_of L r).ref j 0
  pub units : Units (T.context.P.p i)
  pub share : ℕ
  pub split : m ≡ T.context.P.p i * share
  pub spare : ℕ
  pub split' : share ≡ order T.context.P i * spare
