-- The Baum-Clausen steps from one level to the next ("Steps of level i" in the specification), as they are told there:
-- products of intertwiners, the inverse in the last block, the scalars found along the generator. The level below is
-- `low`, of the generators below i; the level made has generator i on top, with prime p and power word u.
--
--   target j r                 where the intertwiner of generator j leads representation r
--   orbit, leader, position    the orbit of r under generator i; its first member; where r stands in it
--   made r, start r            how many representations r gives, and the number of the first of them
--   extension r k              the k-th extension of a representation that generator i fixes
--   induction r                the representation induced from an orbit
--   next_level                  all of them, in order
--   levels P m i               level i, from level 0
--   table_of P                  the built table, as words
--   top_degrees_one P            whether every degree that it lists on the top level is 1
use Rattle.std.specs.Prelude.{ℕ, zero, suc, ◌+◌, ◌*◌, ◌-◌, ◌/◌, ◌%◌, Bool, cond, List, [], ◌∷◌, ◌++◌, map, length, eqb, ltb, leb}
use Rattle.definitions.specs.declared.Entry.{Entry}
use Rattle.definitions.specs.Lists.{upto, blocks, sum, any_below, all, least, iter}
use Rattle.definitions.specs.Presentation.{Presentation, order, power}
use Rattle.definitions.specs.Monomial.{Matrix, entry, col, identity, less, product, scale, inverse, matrices, same_matrix, Rep, Level, rep_of, image}
use Rattle.definitions.specs.Monomial.{conjugate}
use Rattle.definitions.specs.Table.{level_zero, level_words, degrees}

-- the rows of M moved up by o
unfoldable pub lift : ℕ → Matrix → Matrix
lift o M = map (λ (x : Entry). entry (o + x.row) x.exp) M

module _ (P : Presentation) (m i : ℕ) (low : Level) where
  abbrev pub p : ℕ
  p = P.p i

  abbrev pub degree : ℕ → ℕ
  degree r = (rep_of low r).deg

  -- the matrix of generator g in representation r of the level below: an intertwiner from generator i on
  abbrev pub matrix_of : ℕ → ℕ → Matrix
  matrix_of r g = (rep_of low r).matrix g

  -- ---- Orbits

  abbrev pub target : ℕ → ℕ → ℕ
  target j r = (rep_of low r).ref j 0

  unfoldable pub fixed : ℕ → Bool
  fixed r = eqb (target i r) r

  unfoldable pub orbit : ℕ → ℕ → ℕ
  orbit r k = iter (target i) k r

  -- the first representation whose orbit holds r; r is in no earlier orbit if that is r itself
  unfoldable pub leader : ℕ → ℕ
  leader r = least (length low) (λ q. any_below p (λ k. eqb (orbit q k) r))

  unfoldable pub position : ℕ → ℕ
  position r = least p (λ k. eqb (orbit (leader r) k) r)

  unfoldable pub made : ℕ → ℕ
  made r = cond (fixed r) p (cond (eqb (leader r) r) 1 0)

  unfoldable pub start : ℕ → ℕ
  start r = sum r made

  -- ---- Extension, where generator i fixes r

  -- an exponent of F(u) less that of the same column of X^p
  unfoldable pub s : ℕ → ℕ
  s r = less m (col (image m (rep_of low r) i (P.u i)) 0).exp (col (power (matrices m (degree r)) (matrix_of r i) p) 0).exp

  unfoldable pub extended : ℕ → ℕ → Matrix
  extended r k = scale m (s r / p + k * (m / p)) (matrix_of r i)

  -- the k-th extension on its own generators
  abbrev pub extension_base : ℕ → ℕ → Rep
  extension_base r k = record { deg = degree r; matrix = λ g. cond (ltb g i) (matrix_of r g) (extended r k); ref = λ g c. r }

  -- extension 0 goes to number l among the extensions of the target: X D_0(h) = D'_l(gi) X with h = j⁻¹ gi j
  unfoldable pub l : ℕ → ℕ → ℕ
  l j r =
      least p (λ k. same_matrix m
      (product m (matrix_of r j) (conjugate m P (extension_base r 0) i j))
      (product m (extended (target j r) k) (matrix_of r j)))

  -- 1 plus the exponent of generator i in the word of (i, j)
  unfoldable pub a : ℕ → ℕ
  a j = suc (P.w i j).0

  unfoldable pub extension : ℕ → ℕ → Rep
  extension r k = record {
    deg = degree r;
    matrix = λ g. cond (leb g i) ((extension_base r k).matrix g) (matrix_of r g);
    ref = λ g c. cond (leb g i) r (start (target g r) + (l g r + k * a g) % p);
  }

  -- ---- Induction, from the orbit of r

  -- X_k: the intertwiners of F_(k-1) down to F_0
  unfoldable pub along : ℕ → ℕ → Matrix
  along r zero = identity (degree r)
  along r (suc k) = product m (matrix_of (orbit r k) i) (along r k)

  -- block p - 1 goes to block 0 by F(u) times the inverse of X_(p-1)
  unfoldable pub last_block : ℕ → Matrix
  last_block r = product m (image m (rep_of low r) i (P.u i)) (inverse m (along r (p - 1)))

  -- generators below i: the blocks F_0, F_1, ..
  unfoldable pub block_diagonal : ℕ → ℕ → Matrix
  block_diagonal r g = blocks p (λ b. lift (b * degree r) (matrix_of (orbit r b) g))

  -- generator i: block k goes to block k + 1 by the intertwiner of F_k
  unfoldable pub block_cycle : ℕ → Matrix
  block_cycle r = blocks (p - 1) (λ b. lift (suc b * degree r) (matrix_of (orbit r b) i)) ++ last_block r

  -- the induced representation on its own generators
  abbrev pub induction_base : ℕ → Rep
  induction_base r = record {
    deg = p * degree r;
    matrix = λ g. cond (ltb g i) (block_diagonal r g) (block_cycle r);
    ref = λ g c. orbit r (c / degree r);
  }

  module _ (j r : ℕ) where
    -- the intertwiner of generator j with block k scaled by c k: block k goes where F_k goes
    unfoldable pub block_intertwiner : (ℕ → ℕ) → Matrix
    block_intertwiner c = blocks p (λ b. lift (position (target j (orbit r b)) * degree r) (scale m (c b) (matrix_of (orbit r b) j)))

    -- both sides of Y D(h) = D'(gi) Y, h = j⁻¹ gi j, while Y has all c = 0
    unfoldable pub left_side : Matrix
    left_side = product m (block_intertwiner (λ b. 0)) (conjugate m P (induction_base r) i j)

    unfoldable pub right_side : Matrix
    right_side = product m (block_cycle (leader (target j r))) (block_intertwiner (λ b. 0))

    -- the block to which D(h) takes block b
    unfoldable pub next_block : ℕ → ℕ
    next_block b = (col (conjugate m P (induction_base r) i j) (b * degree r)).row / degree r

    -- the blocks along generator i from block 0, and the scalar that the equation forces at each
    unfoldable pub block_after : ℕ → ℕ
    block_after t = iter next_block t 0

    unfoldable pub scalar_after : ℕ → ℕ
    scalar_after zero = 0
    scalar_after (suc t) =
        less m (scalar_after t + (col right_side (block_after t * degree r)).exp) (col left_side (block_after t * degree r)).exp

    unfoldable pub c : ℕ → ℕ
    c b = scalar_after (least p (λ t. eqb (block_after t) b))

  unfoldable pub induction : ℕ → Rep
  induction r = record {
    deg = p * degree r;
    matrix = λ g. cond (leb g i) ((induction_base r).matrix g) (block_intertwiner g r (c g r));
    ref = λ g b. cond (leb g i) ((induction_base r).ref g b) (start (leader (target g r)));
  }

  -- ---- The level

  unfoldable pub given_by : ℕ → List Rep
  given_by r = cond (fixed r) (map (extension r) (upto p)) (cond (eqb (leader r) r) (induction r ∷ []) [])

  unfoldable pub next_level : Level
  next_level = blocks (length low) given_by

unfoldable pub levels : (P : Presentation) (m : ℕ) → ℕ → Level
levels P m zero = level_zero
levels P m (suc i) = next_level P m i (levels P m i)

-- modulo m, levels 1 to n
unfoldable pub table_with : ℕ → Presentation → List ℕ
table_with m P = blocks P.n (λ i. level_words P.n (suc i) (levels P m (suc i)))

-- modulo the order
unfoldable pub table_of : Presentation → List ℕ
table_of P = table_with (order P P.n) P

-- read off the words of the whole table
unfoldable pub top_degrees_one : Presentation → Bool
top_degrees_one P = all (λ d. eqb d 1) (degrees (table_of P) P.n)
