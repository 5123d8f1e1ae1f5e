-- A level by closed formulas of the level below: each line is a line of the level below with another head, an offset of
-- its row and a constant added to its exponent. The constants are read off single columns, and no product of matrices is
-- formed.
--
--   walk m M i w x             an entry moved by the value of a normal form
--   plus m c x                 c added to an exponent
--   Source, source_of           what the formulas ask of the level below; a level as a source
--   orbit, leader, position, made, start    orbits of the generator on top, and numbers, as in the steps
--   around, shift              where intertwiners take column 0 along an orbit; the constant that closes the orbit
--   top_entry, landing          generator i of extension 0 on an entry; the number l of an intertwiner's target
--   Moved, cycle_entry          an entry in a block of an induced representation; generator i on it
--   conjugate_entry             column 0 of a block moved by j⁻¹ gi j
--   block_at, scalar_at, scalar  the blocks along generator i from block 0, their scalars; the scalar of a block
--   extension_at, induction_at   the representations
--   level_by                    the level
use Rattle.std.specs.Prelude.{ℕ, zero, suc, ◌+◌, ◌*◌, ◌/◌, ◌%◌, Bool, cond, List, [], ◌∷◌, map, length, eqb, ltb, leb}
use Rattle.definitions.specs.declared.Entry.{Entry}
use Rattle.definitions.specs.Lists.{upto, blocks, sum, least, iter}
use Rattle.definitions.specs.Presentation.{NF, Presentation}
use Rattle.definitions.specs.Monomial.{Matrix, entry, less, act, scale, Rep, Level, rep_of}
use Rattle.definitions.specs.Steps.{lift}
use Rattle.numbers.proofs.Orbits.{leader_of, position_of}

-- generator after generator, the lowest first
unfoldable pub walk : (m : ℕ) → (ℕ → Matrix) → (i : ℕ) → NF i → Entry → Entry
walk m M zero w x = x
walk m M (suc i) w x = iter (act m (M i)) w.0 (walk m M i w.1 x)

unfoldable pub plus : ℕ → ℕ → Entry → Entry
plus m c x = entry x.row ((x.exp + c) % m)

-- modulus, the generator on top, its prime, its power word and its words with the generators above; and of the
-- representations of the level below, how many there are, their degrees, matrices and where their intertwiners lead
pub record Source : Type 0 where
  pub m : ℕ
  pub i : ℕ
  pub p : ℕ
  pub u : NF i
  pub w : (j : ℕ) → NF (suc i)
  pub count : ℕ
  pub degree : ℕ → ℕ
  pub matrix : (r g : ℕ) → Matrix
  pub target : (j r : ℕ) → ℕ

unfoldable pub source_of : (P : Presentation) (m i : ℕ) → Level → Source
source_of P m i low = record {
  m = m;
  i = i;
  p = P.p i;
  u = P.u i;
  w = P.w i;
  count = length low;
  degree = λ r. (rep_of low r).deg;
  matrix = λ r g. (rep_of low r).matrix g;
  target = λ j r. (rep_of low r).ref j 0;
}

-- an entry in a block
pub record Moved : Type 0 where
  pub block : ℕ
  pub at : Entry

module _ (S : Source) where
  open S use {m, i, p, u, w, count, degree, matrix, target}

  -- ---- Orbits

  abbrev pub turn : ℕ → ℕ
  turn = target i

  abbrev pub fixed : ℕ → Bool
  fixed r = eqb (turn r) r

  abbrev pub orbit : ℕ → ℕ → ℕ
  orbit r k = iter turn k r

  abbrev pub leader : ℕ → ℕ
  leader = leader_of count p turn

  abbrev pub position : ℕ → ℕ
  position = position_of count p turn

  unfoldable pub made : ℕ → ℕ
  made r = cond (fixed r) p (cond (eqb (leader r) r) 1 0)

  unfoldable pub start : ℕ → ℕ
  start r = sum r made

  -- ---- The constant of an orbit

  unfoldable pub around : ℕ → ℕ → Entry
  around r zero = entry 0 0
  around r (suc k) = act m (matrix (orbit r k) i) (around r k)

  unfoldable pub shift : ℕ → ℕ
  shift r = less m (walk m (matrix r) i u (entry 0 0)).exp (around r p).exp

  -- ---- Extensions

  unfoldable pub top_entry : ℕ → Entry → Entry
  top_entry r x = plus m (shift r / p) (act m (matrix r i) x)

  unfoldable pub landing : ℕ → ℕ → ℕ
  landing j r =
      let x = iter (top_entry r) (suc (w j).0) (walk m (matrix r) i (w j).1 (entry 0 0)) in
      less m (act m (matrix r j) x).exp (top_entry (target j r) (act m (matrix r j) (entry 0 0))).exp / (m / p)

  unfoldable pub extension_at : ℕ → ℕ → Rep
  extension_at r k = record {
    deg = degree r;
    matrix = λ g. scale m (cond (eqb g i) (shift r / p + k * (m / p)) 0) (matrix r g);
    ref = λ g c. cond (leb g i) r (start (target g r) + (landing g r + k * suc (w g).0) % p);
  }

  -- ---- Inductions

  -- the block that follows b, and the constant there
  abbrev pub next_of : ℕ → ℕ
  next_of b = cond (ltb (suc b) p) (suc b) 0

  abbrev pub shift_of : ℕ → ℕ → ℕ
  shift_of r b = cond (ltb (suc b) p) 0 (shift r)

  unfoldable pub cycle_entry : ℕ → Moved → Moved
  cycle_entry r x = record { block = next_of x.block; at = plus m (shift_of r x.block) (act m (matrix (orbit r x.block) i) x.at) }

  module _ (j r : ℕ) where
    unfoldable pub conjugate_entry : ℕ → Moved
    conjugate_entry b = iter (cycle_entry r) (suc (w j).0) (record { block = b; at = walk m (matrix (orbit r b)) i (w j).1 (entry 0 0) })

    -- both sides of Y D(h) = D'(gi) Y at column 0 of block b, while Y has no scalars
    unfoldable pub left_at : ℕ → ℕ
    left_at b = let x = conjugate_entry b in (act m (matrix (orbit r x.block) j) x.at).exp

    unfoldable pub right_at : ℕ → ℕ
    right_at b =
        let q = target j (orbit r b) in
        (plus m (shift_of (leader q) (position q)) (act m (matrix q i) (act m (matrix (orbit r b) j) (entry 0 0)))).exp

    unfoldable pub block_at : ℕ → ℕ
    block_at zero = 0
    block_at (suc t) = (conjugate_entry (block_at t)).block

    unfoldable pub scalar_at : ℕ → ℕ
    scalar_at zero = 0
    scalar_at (suc t) = less m ((scalar_at t + right_at (block_at t)) % m) (left_at (block_at t))

    unfoldable pub scalar : ℕ → ℕ
    scalar b = scalar_at (least p (λ t. eqb (block_at t) b))

  -- generator g takes block b to a block, by a constant
  unfoldable pub block_to : ℕ → ℕ → ℕ → ℕ
  block_to r g b = cond (ltb g i) b (cond (eqb g i) (next_of b) (position (target g (orbit r b))))

  unfoldable pub block_by : ℕ → ℕ → ℕ → ℕ
  block_by r g b = cond (ltb g i) 0 (cond (eqb g i) (shift_of r b) (scalar g r b))

  unfoldable pub induction_at : ℕ → Rep
  induction_at r = record {
    deg = p * degree r;
    matrix = λ g. blocks p (λ b. lift (block_to r g b * degree r) (scale m (block_by r g b) (matrix (orbit r b) g)));
    ref = λ g c. cond (leb g i) (orbit r (c / degree r)) (start (leader (target g r)));
  }

  -- ---- The level

  unfoldable pub given_at : ℕ → List Rep
  given_at r = cond (fixed r) (map (extension_at r) (upto p)) (cond (eqb (leader r) r) (induction_at r ∷ []) [])

  unfoldable pub level_by : Level
  level_by = blocks count given_at
