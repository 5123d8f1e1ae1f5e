-- Monomial matrices with exponents modulo m, and representations made of them ("Matrices" in the specification).
-- The modulus is a parameter everywhere; for a table it is the order of the group.
--
--   Entry, entry r x           a column: the basis vector goes to the x-th power of the root times basis vector r
--   Matrix, col M k            a matrix as its columns; column k
--   less m x y                 x - y modulo m
--   act m M x                  where M takes an entry
--   product, identity, scale, inverse      MN applies N first; scale c multiplies by the c-th power of the root
--   matrices m d               product and unit of degree d, so that `power` and `value` apply
--   signed_power m d M k        the power with a signed exponent
--   valid, same_matrix          a matrix of degree d; equality of matrices
--   Rep, Level, rep_of L r      a representation with its intertwiners; a level; its representation r
--   conjugate m P D k j        D(j⁻¹ k j) for generators k < j
use Rattle.std.specs.Prelude.{ℕ, suc, ◌+◌, ◌-◌, ◌%◌, Bool, ◌&&◌, List, [], map, length, get_or, eqb, ltb, ℤ, pos, negsuc}
use Rattle.definitions.specs.declared.Entry.{Entry}
use Rattle.definitions.specs.Lists.{upto, all_below, any_below, least}
use Rattle.definitions.specs.Presentation.{NF, Presentation, Mul, power, value}

-- ---- Matrices

abbrev pub Matrix : Type 0
Matrix = List Entry

abbrev pub entry : ℕ → ℕ → Entry
entry r x = record { row = r; exp = x }

unfoldable pub col : Matrix → ℕ → Entry
col M k = get_or M k (entry 0 0)

unfoldable pub identity : ℕ → Matrix
identity d = map (λ (k : ℕ). entry k 0) (upto d)

module _ (m : ℕ) where
  unfoldable pub less : ℕ → ℕ → ℕ
  less x y = (x + (m - y % m)) % m

  unfoldable pub act : Matrix → Entry → Entry
  act M x = entry (col M x.row).row (((col M x.row).exp + x.exp) % m)

  unfoldable pub product : Matrix → Matrix → Matrix
  product M N = map (act M) N

  unfoldable pub scale : ℕ → Matrix → Matrix
  scale c M = map (λ (x : Entry). entry x.row ((x.exp + c) % m)) M

  -- column r comes from the column of M whose row is r
  unfoldable pub inverse : Matrix → Matrix
  inverse M = map (λ (r : ℕ). let k = least (length M) (λ k. eqb (col M k).row r) in entry k (less 0 (col M k).exp)) (upto (length M))

  abbrev pub matrices : ℕ → Mul Matrix
  matrices d = record { mul = product; one = identity d }

  -- the k-th power, or for -(k + 1) the (k + 1)-st of the inverse
  unfoldable pub signed_power : (d : ℕ) → Matrix → ℤ → Matrix
  signed_power d M (pos k) = power (matrices d) M k
  signed_power d M (negsuc k) = power (matrices d) (inverse M) (suc k)

  -- d columns, exponents below m, and rows that are a permutation of the numbers below d
  unfoldable pub valid : ℕ → Matrix → Bool
  valid d M =
      eqb (length M) d
      && all_below d (λ k. ltb (col M k).row d && ltb (col M k).exp m)
      && all_below d (λ r. any_below d (λ k. eqb (col M k).row r))

  unfoldable pub same_entry : Entry → Entry → Bool
  same_entry x y = eqb x.row y.row && eqb (x.exp % m) (y.exp % m)

  -- equal degrees, and in each column equal rows and exponents modulo m
  unfoldable pub same_matrix : Matrix → Matrix → Bool
  same_matrix M N = eqb (length M) (length N) && all_below (length M) (λ k. same_entry (col M k) (col N k))

-- ---- Representations

-- a representation of a level of the chief series: its degree; the matrix of each generator, which represents the
-- generator if it is one of the level and is an intertwiner (a carrier, in the specification) if it is above; and the
-- reference of each generator's columns: to the representation below whose block holds the column, or to where the
-- intertwiner leads
pub record Rep : Type 0 where
  pub deg : ℕ
  pub matrix : ℕ → Matrix
  pub ref : ℕ → ℕ → ℕ

abbrev pub Level : Type 0
Level = List Rep

abbrev pub no_rep : Rep
no_rep = record { deg = 0; matrix = λ k. []; ref = λ k c. 0 }

unfoldable pub rep_of : Level → ℕ → Rep
rep_of L r = get_or L r no_rep

-- D of a normal form of level i
unfoldable pub image : (m : ℕ) → Rep → (i : ℕ) → NF i → Matrix
image m D i x = value (matrices m D.deg) D.matrix i x

-- j⁻¹ k j is k times the word of (k, j)
unfoldable pub conjugate : (m : ℕ) → Presentation → Rep → ℕ → ℕ → Matrix
conjugate m P D k j = product m (D.matrix k) (image m D (suc k) (P.w k j))
