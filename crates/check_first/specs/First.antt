-- Level 1 as it stands in lines: representations of degree 1, each with a line for each generator.
--
--   word_on rows j                  the exponent of generator 0 in the word of generators 0 and j
--   exponent_of n T r               the exponent of generator 0 in representation r
--   Allowed k p part M             of k numbers only the first p multiples of part are free
--   Takes e M N                    e is free in M; in N it is not, and the others stay as they are
--   LineOne T at r g               line `at` is of generator g of representation r of level 1, of degree 1
--   LedTo T at n p a e m           line `at` leads to one of p representations, in which generator 0 has a times the exponent e
--   RootImage s T rows p r j           the line of generator j, above generator 0
--   Parted s T p part              the modulus is p times part, and p representations have their lines
--   CharacterPlaced s T p r                 representation r is one of p that have their lines
--   SlotsMarked s T p M                 only exponents that the power relation allows are marked
--   RootImages s T rows p r            the lines of all generators above generator 0
--   Character s T rows p r         the lines of representation r
--   TakesCharacter                 the same, and its exponent is taken from the marks
--   Characters s T rows p          the first p representations, which differ in the exponent of generator 0
--   FirstLevel s T rows orders p   the heads of the table are in order, and these are its level 1
use Rattle.std.specs.Prelude.{◌≡◌, Bool, true, false, List, [], ℕ, suc, ◌+◌, ◌*◌, ◌%◌, ◌≤◌, ◌<◌, length, get_or}
use Rattle.definitions.specs.Presentation.{max_order, pair_number}
use Rattle.definitions.specs.Table.{LEVEL, REP, DEG, GEN, REF, COL, ROW, EXP, word_at, line_count, level_at}
use Rattle.seek.specs.declared.Scope.{Scope}
use Rattle.seek.specs.Seek.{Whole}
use Rattle.heads.specs.Walk.{heads_ok}
use Rattle.check_heads.specs.Places.{orders_in, Scoped}

abbrev pub word_on : List (List ℕ) → ℕ → ℕ
word_on rows j = get_or (get_or rows (pair_number j 0) []) 0 0

abbrev pub exponent_of : ℕ → List ℕ → ℕ → ℕ
exponent_of n T r = word_at T (r * n) EXP

-- ---- Marks

pub record Allowed (k p part : ℕ) (M : List Bool) : Type 0 where
  pub size : length M ≡ k
  pub only : (e : ℕ) → get_or M e false ≡ true → (q : ℕ) × (q < p) × (e ≡ q * part)

pub record Takes (e : ℕ) (M N : List Bool) : Type 0 where
  pub inside : e < length M
  pub size : length N ≡ length M
  pub free : get_or M e false ≡ true
  pub taken : get_or N e false ≡ false
  pub others : (f : ℕ) → ¬ (f ≡ e) → get_or N f false ≡ get_or M f false

-- ---- Lines

pub record LineOne (T : List ℕ) (at r g : ℕ) : Type 0 where
  pub level : word_at T at LEVEL ≡ 1
  pub rep : word_at T at REP ≡ r
  pub deg : word_at T at DEG ≡ 1
  pub gen : word_at T at GEN ≡ suc g

pub record LedTo (T : List ℕ) (at n p a e m : ℕ) : Type 0 where
  pub listed : word_at T at REF < p
  pub image : (a * e) % m ≡ exponent_of n T (word_at T at REF)

pub record RootImage (s : Scope) (T : List ℕ) (rows : List (List ℕ)) (p r j : ℕ) : Type 0 where
  pub line : LineOne T (r * s.gens + j) r j
  pub col : word_at T (r * s.gens + j) COL ≡ 0
  pub row : word_at T (r * s.gens + j) ROW ≡ 0
  pub exp : word_at T (r * s.gens + j) EXP < s.m
  pub led : LedTo T (r * s.gens + j) s.gens p (suc (word_on rows j)) (exponent_of s.gens T r) s.m

-- ---- Representations

-- the modulus is p times part, and the lines of p representations are there
pub record Parted (s : Scope) (T : List ℕ) (p part : ℕ) : Type 0 where
  pub counted : Scoped s T
  pub room : p * s.gens ≤ line_count T
  pub product : p * part ≡ s.m
  pub positive : 0 < part
  pub small : s.m ≤ max_order

-- the lines of representation r are there, and it is one of p
pub record CharacterPlaced (s : Scope) (T : List ℕ) (p r : ℕ) : Type 0 where
  pub counted : Scoped s T
  pub room : p * s.gens ≤ line_count T
  pub here : r < p
  pub few : p ≤ max_order
  pub small : s.m ≤ max_order

-- the exponents that are free are multiples of the part
pub record SlotsMarked (s : Scope) (T : List ℕ) (p : ℕ) (M : List Bool) : Type 0 where
  pub part : ℕ
  pub parted : Parted s T p part
  pub allowed : Allowed (length M) p part M

pub record RootImages (s : Scope) (T : List ℕ) (rows : List (List ℕ)) (p r : ℕ) : Type 0 where
  pub each : (j : ℕ) → 0 < j → j < s.gens → RootImage s T rows p r j

pub record Character (s : Scope) (T : List ℕ) (rows : List (List ℕ)) (p r : ℕ) : Type 0 where
  pub line : LineOne T (r * s.gens) r 0
  pub refers : word_at T (r * s.gens) REF ≡ 0
  pub col : word_at T (r * s.gens) COL ≡ 0
  pub row : word_at T (r * s.gens) ROW ≡ 0
  pub images : RootImages s T rows p r

pub record TakesCharacter (s : Scope) (T : List ℕ) (rows : List (List ℕ)) (p r : ℕ) (M N : List Bool) : Type 0 where
  pub is : Character s T rows p r
  pub takes : Takes (exponent_of s.gens T r) M N

pub record Characters (s : Scope) (T : List ℕ) (rows : List (List ℕ)) (p : ℕ) : Type 0 where
  pub room : p * s.gens ≤ line_count T
  pub each : (r : ℕ) → r < p → Character s T rows p r
  pub below : (r : ℕ) → r < p → exponent_of s.gens T r < s.m
  pub power : (r : ℕ) → r < p → (p * exponent_of s.gens T r) % s.m ≡ 0
  pub apart : (q r : ℕ) → q < p → r < p → ¬ (q ≡ r) → ¬ (exponent_of s.gens T q ≡ exponent_of s.gens T r)

pub record FirstLevel (s : Scope) (T : List ℕ) (rows : List (List ℕ)) (orders : List ℕ) (p : ℕ) : Type 0 where
  pub heads : heads_ok s.gens T (orders_in orders) ≡ true
  pub whole : Whole s T
  pub order : get_or orders 1 0 ≡ p
  pub counts : length (level_at s.gens T 1) ≡ p
  pub are : Characters s T rows p
