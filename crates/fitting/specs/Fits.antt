-- A level compared with the level below, block by block.
--
--   block_to, scalar_of     the block to which generator g takes block k, and the exponent of the root that it adds there
--   Fitting r             what is asked of representation r
--   Fits                  and of all representations together
use Rattle.std.specs.Prelude.{◌≡◌, true, ◌⊎◌, ℕ, suc, ◌+◌, ◌*◌, ◌/◌, ◌%◌, ◌≤◌, ◌<◌, length}
use Rattle.definitions.specs.Lists.{sum}
use Rattle.definitions.specs.Presentation.{Presentation, order}
use Rattle.definitions.specs.Monomial.{entry, col, less, Rep, Level, rep_of}
use Rattle.columns.specs.Columns.{power_at, intertwines_at}
use Rattle.clifford.specs.Stands.{Restricts}

module _ (P : Presentation) (n m i : ℕ) (Low High : Level) where
  abbrev pub low : ℕ → Rep
  low f = rep_of Low f

  abbrev pub high : ℕ → Rep
  high r = rep_of High r

  module _ (r : ℕ) (cut : Restricts i Low (rep_of High r)) where
    abbrev pub block_to : ℕ → ℕ → ℕ
    block_to g k = (col ((rep_of High r).matrix g) (k * cut.width)).row / cut.width

    abbrev pub scalar_of : ℕ → ℕ → ℕ
    scalar_of g k = less m (col ((rep_of High r).matrix g) (k * cut.width)).exp (col ((rep_of Low (cut.part k)).matrix g) 0).exp

  pub record Fitting (r : ℕ) : Type 0 where
    -- one block or p, each of which acts as the representation below to which it refers
    pub cut : Restricts i Low (high r)
    pub one_or_p : (cut.count ≡ 1) ⊎ (cut.count ≡ P.p i)
    -- generator i and those above it take a block to a block as they do below, up to a power of the root
    pub lands : (g k : ℕ) → i ≤ g → g < n → k < cut.count → block_to r cut g k < cut.count
    pub shifts : (g k c : ℕ) → i ≤ g → g < n → k < cut.count → c < cut.width → let x = col ((low (cut.part k)).matrix g) c in
        col ((high r).matrix g) (k * cut.width + c) ≡ entry (block_to r cut g k * cut.width + x.row) ((x.exp + scalar_of r cut g k) % m)
    -- generator i leads from reference to reference; it moves the first of several
    pub follows : (k : ℕ) → k < cut.count → cut.part (block_to r cut i k) ≡ (low (cut.part k)).ref i 0
    pub moved : ¬ (cut.count ≡ 1) → ¬ ((low (cut.part 0)).ref i 0 ≡ cut.part 0)
    -- its power relation, in column 0
    pub power : power_at P m (high r) i 0 ≡ true
    -- a generator j above i leads to a representation of the same degree and width, from block to block as below
    pub listed : (j : ℕ) → i < j → j < n → (high r).ref j 0 < length High
    pub leads : (j c : ℕ) → i < j → j < n → c < (high r).deg → (high r).ref j c ≡ (high r).ref j 0
    pub same_degree : (j : ℕ) → i < j → j < n → (high ((high r).ref j 0)).deg ≡ (high r).deg
    pub same_width : (j : ℕ) → i < j → j < n → (low ((high ((high r).ref j 0)).ref 0 0)).deg ≡ cut.width
    pub arrives : (j k : ℕ) → i < j → j < n → k < cut.count
        → (high ((high r).ref j 0)).ref 0 (block_to r cut j k * cut.width) ≡ (low (cut.part k)).ref j 0
    -- and carries generator i over, in the first column of each block
    pub conjugate : (j k : ℕ) → i < j → j < n → k < cut.count → intertwines_at P m (high r) (high ((high r).ref j 0)) i j (k * cut.width) ≡ true

  pub record Fits : Type 0 where
    pub fit : (r : ℕ) → r < length High → Fitting r
    pub degree_pos : (r : ℕ) → r < length High → 0 < (high r).deg
    -- two representations with a reference in common are of one block each, and generator i has other exponents in column 0
    pub unshared : (r r' : ℕ) (h : r < length High) (h' : r' < length High) → ¬ (r ≡ r') → (k k' : ℕ) → k < (fit r h).cut.count → k' < (fit r' h').cut.count
        → (fit r h).cut.part k ≡ (fit r' h').cut.part k'
        → ((fit r h).cut.count ≡ 1) × ((fit r' h').cut.count ≡ 1) × ¬ ((col ((high r).matrix i) 0).exp ≡ (col ((high r').matrix i) 0).exp)
    pub squares : sum (length High) (λ r. (high r).deg * (high r).deg) ≡ order P (suc i)
