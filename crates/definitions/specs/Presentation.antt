-- Power-commutator presentations: what a text says, what it means, and the conditions of refusals 11 to 14
-- ("Presentation text" and "Ceilings" in the specification). Generators are numbered from 0: generator k here is
-- the g(k+1) of a text, and level i has the generators below i.
--
--   max_generators, max_order    the ceilings; pair_count, the pairs of so many generators; max_modulus, of the exponents; max_degree, of
--                              degrees
--   line_words                  words of a table line
--   NF i, to_nf i row           normal forms of level i; the one that a row of exponents says
--   Presentation               primes, power words, commutator words
--   order P i                  the order of level i
--   build_words P               the words that a build wants
--   Mul, power, value          a product and a unit; powers; the value of a normal form at given generators
--   Valid P i x                each exponent is below its prime
--   Relations                  what a text says: n, and p and word of each pair
--   text_of R, Says t R         its text; t is the text of R
--   presentation R             the presentation that R means
--   is_prime, some_not_prime, too_large, misused      12, 13, 14
use Rattle.std.specs.Prelude.{◌≡◌, ℕ, zero, suc, ◌+◌, ◌*◌, ◌%◌, ◌<◌, Bool, true, ◌&&◌, ◌||◌, not, cond, length, get_or, eqb, leb, ltb}
use mathlib.Core.List.{List, [], ◌∷◌, map, zip_with}
use Rattle.definitions.specs.Lists.{upto, blocks, sum, all, all_below}
use Rattle.definitions.specs.Text.{Bytes, largest, decimal, render, small}

-- ---- Ceilings

abbrev pub max_generators : ℕ
max_generators = 14

abbrev pub max_order : ℕ
max_order = 16384

-- the pairs (j, i) of so many generators, i at most j
abbrev pub pair_count : ℕ
pair_count = 105

-- exponents are modulo the order, so no modulus is above its ceiling
abbrev pub max_modulus : ℕ
max_modulus = max_order

-- no degree is above it whose square is at most the order
abbrev pub max_degree : ℕ
max_degree = 128

unfoldable pub line_words : ℕ
line_words = 8

-- ---- Presentations

-- a normal form of level i: the exponent of the highest generator, then a normal form of the level below
abbrev pub NF : ℕ → Type 0
NF zero = Unit {0}
NF (suc i) = ℕ × NF i

-- the first i exponents of a row e1, e2, ..
unfoldable pub to_nf : (i : ℕ) → List ℕ → NF i
to_nf zero row = tt
to_nf (suc i) row = (get_or row i 0, to_nf i row)

unfoldable pub trivial : (i : ℕ) → NF i
trivial zero = tt
trivial (suc i) = (0, trivial i)

-- n generators; p j the prime of generator j; u j the value of its p-th power; w k j, for k < j, the word of
-- the commutator k⁻¹ j⁻¹ k j. Beyond n nothing is looked at.
pub record Presentation : Type 0 where
  pub n : ℕ
  pub p : ℕ → ℕ
  pub u : (j : ℕ) → NF j
  pub w : (k j : ℕ) → NF (suc k)

-- the product of the primes of the first i generators
unfoldable pub order : Presentation → ℕ → ℕ
order P zero = 1
order P (suc i) = P.p i * order P i

-- a line for every generator and every column of at most order-many columns, on each level
unfoldable pub build_words : Presentation → ℕ
build_words P = line_words * (P.n * sum P.n (λ i. order P (suc i)))

abbrev pub Valid : (P : Presentation) (i : ℕ) → NF i → Type 0
Valid P zero x = Unit {0}
Valid P (suc i) x = (x.0 < P.p i) × Valid P i x.1

-- ---- Values of normal forms

-- a product and a unit, of which no law is asked
pub record Mul (M : Type 0) : Type 0 where
  pub mul : M → M → M
  pub one : M

module _ {M : Type 0} (𝓜 : Mul M) where
  unfoldable pub power : M → ℕ → M
  power x zero = 𝓜.one
  power x (suc k) = 𝓜.mul x (power x k)

  -- the highest generator stands first: a word e1 .. en means gn^en .. g1^e1
  unfoldable pub value : (ℕ → M) → (i : ℕ) → NF i → M
  value h zero x = 𝓜.one
  value h (suc i) x = 𝓜.mul (power (h i) x.0) (value h i x.1)

-- ---- What a text says

-- a line of a text after its j and i
pub record Row : Type 0 where
  pub p : ℕ
  pub word : List ℕ

-- n, and the rows in the order of the lines
pub record Relations : Type 0 where
  pub n : ℕ
  pub rows : List Row

-- the pairs (j, i) of generator j: with itself, then with each below it
unfoldable pub pairs_of : ℕ → List (ℕ × ℕ)
pairs_of j = (j, j) ∷ map (λ i. (j, i)) (upto j)

-- the pairs in the order of the lines
unfoldable pub pairs : ℕ → List (ℕ × ℕ)
pairs n = blocks n pairs_of

-- the number of the pair (j, i) in that order
unfoldable pub pair_number : ℕ → ℕ → ℕ
pair_number j i = sum j suc + cond (eqb i j) 0 (suc i)

-- j, i, p, then e1, e2, .. en
unfoldable pub presentation_names : ℕ → List Bytes
presentation_names n = (106 ∷ []) ∷ (105 ∷ []) ∷ (112 ∷ []) ∷ map (λ k. 101 ∷ decimal (suc k)) (upto n)

abbrev pub row_values : ℕ × ℕ → Row → List ℕ
row_values ji r = suc ji.0 ∷ suc ji.1 ∷ r.p ∷ r.word

unfoldable pub text_of : Relations → Bytes
text_of R = render (presentation_names R.n) (zip_with row_values (pairs R.n) R.rows)

-- n is at least 1, there is a row for each pair, a row has n exponents, and every value has at most nine digits
unfoldable pub well_formed : Relations → Bool
well_formed R =
    leb 1 R.n && leb R.n largest && eqb (length R.rows) (length (pairs R.n))
    && all (λ (r : Row). eqb (length r.word) R.n && leb r.p largest && small r.word) R.rows

-- the text t says the relations R; a text that says none is not in the form (11)
pub record Says (t : Bytes) (R : Relations) : Type 0 where
  pub formed : well_formed R ≡ true
  pub written : t ≡ text_of R

abbrev pub InForm : Bytes → Type 0
InForm t = (R : Relations) × Says t R

-- the row of the pair (j, i)
unfoldable pub row_of : Relations → ℕ → ℕ → Row
row_of R j i = get_or R.rows (pair_number j i) (record { p = 2; word = [] })

unfoldable pub presentation : Relations → Presentation
presentation R = record {
  n = R.n;
  p = λ j. (row_of R j j).p;
  u = λ j. to_nf j (row_of R j j).word;
  w = λ k j. to_nf (suc k) (row_of R j k).word;
}

-- ---- Refusals 12, 13 and 14

-- above 1, and no number from 2 up to it divides it
unfoldable pub is_prime : ℕ → Bool
is_prime p = ltb 1 p && all_below p (λ d. ltb d 2 || not (eqb (p % d) 0))

-- 12: the p of some line i = j is not prime
unfoldable pub some_not_prime : Relations → Bool
some_not_prime R = not (all_below R.n (λ j. is_prime ((presentation R).p j)))

-- 13
unfoldable pub too_large : Relations → Bool
too_large R = ltb max_generators R.n || ltb max_order (order (presentation R) R.n)

-- the word of (j, i) may use generator k: below j in a power word, up to i in a commutator word
unfoldable pub allowed : ℕ → ℕ → ℕ → Bool
allowed j i k = cond (eqb i j) (ltb k j) (leb k i)

unfoldable pub row_well : Relations → ℕ → ℕ → Bool
row_well R j i =
    (eqb i j || eqb (row_of R j i).p 0)
    && all_below R.n (λ k. let e = get_or (row_of R j i).word k 0 in ltb e ((presentation R).p k) && (allowed j i k || eqb e 0))

-- 14: an exponent not below its prime, a generator where it is not allowed, or a p that is not 0 where i < j
unfoldable pub misused : Relations → Bool
misused R = not (all_below R.n (λ j. all_below (suc j) (λ i. row_well R j i)))
