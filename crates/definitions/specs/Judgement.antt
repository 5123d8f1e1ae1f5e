-- What the checker judges of a table T for a presentation P (21 to 26), over P and T alone, for any T. Each refusal is a
-- Boolean that computes; the modulus m of the exponents is a parameter.
--
--   all_forms P i               the normal forms of level i (the products of level i, in the specification)
--   cuts                       the columns at which the blocks of a representation begin
--   malformed                  21
--   relation_fails              22
--   restriction_fails           23
--   intertwiner_fails           24
--   not_separated               25; a place, in the specification, is a basis index of a representation
--   squares_fail                26
use Rattle.std.specs.Prelude.{ℕ, zero, suc, ◌+◌, ◌*◌, ◌%◌, Bool, true, ◌&&◌, ◌||◌, not, cond, List, [], ◌∷◌, map, length, eqb, leb, ltb}
use Rattle.definitions.specs.Lists.{blocks, sum, all_below, all, any}
use Rattle.definitions.specs.Presentation.{line_words, NF, Presentation, order, power}
use Rattle.definitions.specs.Monomial.{entry, col, product, matrices, valid, same_entry, same_matrix, Rep, Level, rep_of, image, conjugate}
use Rattle.definitions.specs.Table.{level_at, complete}

unfoldable pub all_forms : (P : Presentation) (i : ℕ) → List (NF i)
all_forms P zero = tt ∷ []
all_forms P (suc i) = blocks (P.p i) (λ e. map (λ (x : NF i). (e, x)) (all_forms P i))

-- ---- Blocks

module _ (low : Level) (D : Rep) where
  -- from column o on, stretch after stretch, each as long as the degree of what its first column refers to
  unfoldable pub cuts_from : ℕ → ℕ → List ℕ
  cuts_from zero o = []
  cuts_from (suc f) o = cond (ltb o D.deg) (o ∷ cuts_from f (o + (rep_of low (D.ref 0 o)).deg)) []

  unfoldable pub cuts : List ℕ
  cuts = cuts_from D.deg 0

  -- what the column o refers to
  abbrev pub below : ℕ → Rep
  below o = rep_of low (D.ref 0 o)

  -- the block from column o refers to a listed representation, ends within the columns, and refers to one throughout
  unfoldable pub whole_block : ℕ → Bool
  whole_block o =
      ltb (D.ref 0 o) (length low) && leb (o + (below o).deg) D.deg && all_below (below o).deg (λ c. eqb (D.ref 0 (o + c)) (D.ref 0 o))

module _ (P : Presentation) (m : ℕ) (T : List ℕ) where
  abbrev pub level : ℕ → Level
  level i = level_at P.n T i

  -- of every representation D of every level from 1 to n
  unfoldable pub everywhere : ((i : ℕ) → Rep → Bool) → Bool
  everywhere q = all_below P.n (λ i. all_below (length (level (suc i))) (λ r. q (suc i) (rep_of (level (suc i)) r)))

  -- of every level from 1 to n
  unfoldable pub every_level : (ℕ → Bool) → Bool
  every_level q = all_below P.n (λ i. q (suc i))

  -- ---- 21

  -- the degree, and each matrix
  unfoldable pub matrices_valid : ℕ → Rep → Bool
  matrices_valid i D = ltb 0 D.deg && leb (D.deg * D.deg) (order P i) && all_below P.n (λ g. valid m D.deg (D.matrix g))

  -- whole blocks, the same for every generator of the level
  unfoldable pub blocks_whole : ℕ → Rep → Bool
  blocks_whole zero D = true
  blocks_whole (suc i) D =
      all (whole_block (level i) D) (cuts (level i) D)
      && all_below (suc i) (λ g. all_below D.deg (λ c. eqb (D.ref g c) (D.ref 0 c)))

  -- an intertwiner refers to one listed representation of its own level
  unfoldable pub targets_listed : ℕ → Rep → Bool
  targets_listed i D =
      all_below P.n (λ j. ltb j i || (ltb (D.ref j 0) (length (level i)) && all_below D.deg (λ c. eqb (D.ref j c) (D.ref j 0))))

  unfoldable pub malformed : Bool
  malformed =
      not (eqb (length T % line_words) 0 && complete P.n T
      && everywhere (λ i D. matrices_valid i D && blocks_whole i D && targets_listed i D))

  -- ---- 22

  unfoldable pub power_holds : Rep → ℕ → Bool
  power_holds D j = same_matrix m (power (matrices m D.deg) (D.matrix j) (P.p j)) (image m D j (P.u j))

  unfoldable pub commutator_holds : Rep → ℕ → ℕ → Bool
  commutator_holds D k j = same_matrix m (product m (D.matrix k) (D.matrix j)) (product m (D.matrix j) (conjugate m P D k j))

  unfoldable pub relations_hold : ℕ → Rep → Bool
  relations_hold i D = all_below i (λ j. power_holds D j && all_below j (λ k. commutator_holds D k j))

  unfoldable pub relation_fails : Bool
  relation_fails = not (everywhere relations_hold)

  -- ---- 23

  -- in the block from column o each generator below the top acts as in what the block refers to
  unfoldable pub block_restricts : ℕ → Rep → ℕ → Bool
  block_restricts i D o =
      let F = below (level i) D o in
      all_below i (λ k. all_below F.deg (λ c.
      same_entry m (col (D.matrix k) (o + c)) (entry (o + (col (F.matrix k) c).row) (col (F.matrix k) c).exp)))

  unfoldable pub restricts : ℕ → Rep → Bool
  restricts zero D = true
  restricts (suc i) D = all (block_restricts i D) (cuts (level i) D)

  unfoldable pub restriction_fails : Bool
  restriction_fails = not (everywhere restricts)

  -- ---- 24

  -- X D(j⁻¹ k j) = F'(k) X for each generator k of the level
  unfoldable pub intertwines : ℕ → Rep → ℕ → Bool
  intertwines i D j =
      let F = rep_of (level i) (D.ref j 0) in
      eqb F.deg D.deg
      && all_below i (λ k. same_matrix m (product m (D.matrix j) (conjugate m P D k j)) (product m (F.matrix k) (D.matrix j)))

  unfoldable pub intertwiners_hold : ℕ → Rep → Bool
  intertwiners_hold i D = all_below P.n (λ j. ltb j i || intertwines i D j)

  unfoldable pub intertwiner_fails : Bool
  intertwiner_fails = not (everywhere intertwiners_hold)

  -- ---- 25

  -- some normal form maps basis index 0 to k
  unfoldable pub reaches : ℕ → Rep → ℕ → Bool
  reaches i D k = any (λ x. eqb (col (image m D i x) 0).row k) (all_forms P i)

  -- x fixes index k of D and index k' of D', with exponents that differ modulo m
  unfoldable pub tells : (i : ℕ) → Rep → ℕ → Rep → ℕ → NF i → Bool
  tells i D k D' k' x =
      let y = col (image m D i x) k in
      let y' = col (image m D' i x) k' in
      eqb y.row k && eqb y'.row k' && not (eqb (y.exp % m) (y'.exp % m))

  -- every index of representation r is reached, and separated from every other index of the level
  unfoldable pub separates : ℕ → ℕ → Bool
  separates i r =
      let D = rep_of (level i) r in
      all_below D.deg (λ k. reaches i D k && all_below (length (level i)) (λ r'.
      all_below (rep_of (level i) r').deg (λ k'. (eqb r r' && eqb k k') || any (tells i D k (rep_of (level i) r') k') (all_forms P i))))

  unfoldable pub not_separated : Bool
  not_separated = not (every_level (λ i. all_below (length (level i)) (separates i)))

  -- ---- 26

  unfoldable pub squares : ℕ → ℕ
  squares i = sum (length (level i)) (λ r. (rep_of (level i) r).deg * (rep_of (level i) r).deg)

  unfoldable pub squares_fail : Bool
  squares_fail = not (every_level (λ i. eqb (squares i) (order P i)))
