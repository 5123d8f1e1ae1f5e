-- A level of any table over the level below: references in whole blocks that act as listed.
--
--   Restricting m i low L      21 and 23 for the representations L of level suc i
use Rattle.std.specs.Prelude.{◌≡◌, true, ℕ, suc, ◌<◌, length, List}
use Rattle.definitions.specs.Lists.{all}
use Rattle.definitions.specs.Presentation.{Presentation}
use Rattle.definitions.specs.Monomial.{rep_of}
use Rattle.definitions.specs.Table.{level_at}
use Rattle.definitions.specs.Judgement

pub record Restricting (P : Presentation) (m : ℕ) (table : List ℕ) (i : ℕ) : Type 0 where
  pub whole : (r : ℕ) → r < length (level_at P.n table (suc i))
      → all (Judgement.whole_block (level_at P.n table i) (rep_of (level_at P.n table (suc i)) r))
      (Judgement.cuts (level_at P.n table i) (rep_of (level_at P.n table (suc i)) r)) ≡ true
  pub acts : (r : ℕ) → r < length (level_at P.n table (suc i))
      → all (Judgement.block_restricts P m table i (rep_of (level_at P.n table (suc i)) r))
      (Judgement.cuts (level_at P.n table i) (rep_of (level_at P.n table (suc i)) r)) ≡ true
