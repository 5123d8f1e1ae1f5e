-- What decides 25 on level suc i of a table, where 21 to 23 hold and level i passes 25: no product is formed.
--
--   block_count r       how many blocks representation r has
--   outside r          generator i takes column 0 out of its block
--   unshared r r'      no other block of r' has a reference of r
--   differs r r'       other references, or other exponents of generator i in column 0
--   parted r           one block, and no other of one block like it; or as many as the prime of generator i, moved by it,
--                      whose references no other block has
--   quick              every representation is parted
--   own, apart, pairwise     the same by pairs of representations, the later one outside
use Rattle.std.specs.Prelude.{ℕ, suc, Bool, ◌&&◌, ◌||◌, not, cond, List, eqb, leb, length}
use Rattle.definitions.specs.Lists.{all_below, all}
use Rattle.definitions.specs.Presentation.{Presentation}
use Rattle.definitions.specs.Monomial.{col, Level, rep_of}
use Rattle.definitions.specs.Table.{level_at}
use Rattle.definitions.specs.Judgement

module _ (P : Presentation) (table : List ℕ) (i : ℕ) where
  abbrev pub lower : Level
  lower = level_at P.n table i

  abbrev pub upper : Level
  upper = level_at P.n table (suc i)

  abbrev pub reference : ℕ → ℕ → ℕ
  reference r o = (rep_of upper r).ref 0 o

  abbrev pub block_starts : ℕ → List ℕ
  block_starts r = Judgement.cuts lower (rep_of upper r)

  unfoldable pub block_count : ℕ → ℕ
  block_count r = length (block_starts r)

  unfoldable pub outside : ℕ → Bool
  outside r = leb (rep_of lower (reference r 0)).deg (col ((rep_of upper r).matrix i) 0).row

  unfoldable pub unshared : ℕ → ℕ → Bool
  unshared r r' = all (λ o. all (λ o'. (eqb r r' && eqb o o') || not (eqb (reference r o) (reference r' o'))) (block_starts r')) (block_starts r)

  unfoldable pub differs : ℕ → ℕ → Bool
  differs r r' = not (eqb (reference r 0) (reference r' 0)) || not (eqb (col ((rep_of upper r).matrix i) 0).exp (col ((rep_of upper r').matrix i) 0).exp)

  unfoldable pub parted : ℕ → Bool
  parted r =
      cond (eqb (block_count r) 1)
      (all_below (length upper) (λ r'. eqb r r' || not (eqb (block_count r') 1) || differs r r'))
      (eqb (block_count r) (P.p i) && outside r && all_below (length upper) (unshared r))

  unfoldable pub quick : Bool
  quick = all_below (length upper) parted

  -- ---- The same by pairs, the later one outside

  -- one block, or as many as the prime says, moved and with references of their own
  unfoldable pub own : ℕ → Bool
  own r = eqb (block_count r) 1 || (eqb (block_count r) (P.p i) && outside r && unshared r r)

  unfoldable pub apart : ℕ → ℕ → Bool
  apart r r' = cond (eqb (block_count r) 1 && eqb (block_count r') 1) (differs r r') (unshared r r')

  unfoldable pub pairwise : Bool
  pairwise = all_below (length upper) (λ r'. own r' && all_below r' (λ r. apart r r'))
