-- What refusal 21 asks of the representations of a complete table, as code asks it.
--
--   listed_rep T D             the representation whose lines are those of D
--   blocks_ok low D            its blocks are whole, over the level below
--   Width low D o x           x is the length of the block from column o, if it is one
--   body n m T i D            matrices, blocks and targets of a representation of the level above level i
--   level_ok n m T i           those of every representation of that level
--   LevelOver s T i count          a complete table, a level of it, and how many representations that has
--   Spans s T D                the lines of D are there
--   LevelsBehind s T k        the first k levels pass these tests
--   FormBehind s orders T k   and so do the heads of all lines, where k is not 0
--   TellsForm s orders T r    r says whether 21 does not apply, for every such presentation
use Rattle.std.specs.Prelude.{◌≡◌, Bool, true, false, ◌&&◌, ◌||◌, not, List, ℕ, suc, ◌*◌, ◌≤◌, ◌<◌, eqb, ltb, length, Option, MatchOption}
use Rattle.definitions.specs.Lists.{all_below, all}
use Rattle.definitions.specs.Presentation.{Presentation}
use Rattle.definitions.specs.Monomial.{valid, Rep, Level, rep_of}
use Rattle.definitions.specs.Table.{level_at}
use Rattle.definitions.specs.Judgement.{cuts, whole_block, malformed}
use Rattle.heads.specs.Walk.{heads_ok}
use Rattle.level.specs.declared.Listed.{Listed}
use Rattle.level.specs.Stored.{line_in, generator_in}
use Rattle.seek.specs.declared.Scope.{Scope}
use Rattle.seek.specs.Seek.{Whole}
use Rattle.seek.specs.Formed.{Ordered}
use Rattle.check_heads.specs.Places.{orders_in}
use Rattle.check_lines.specs.Lines.{ref_in}

abbrev pub listed_rep : List ℕ → Listed → Rep
listed_rep T D = record { deg = D.deg; matrix = generator_in T D; ref = ref_in T D }

abbrev pub blocks_ok : Level → Rep → Bool
blocks_ok low D = all (whole_block low D) (cuts low D)

abbrev pub Width : Level → Rep → ℕ → Option ℕ → Type 0
Width low D o x = MatchOption x (whole_block low D o ≡ false) (λ f. (whole_block low D o ≡ true) × (f ≡ (rep_of low (D.ref 0 o)).deg) × (0 < f))

module _ (n m : ℕ) (T : List ℕ) (i : ℕ) where
  unfoldable pub body : Rep → Bool
  body D =
      all_below n (λ g. valid m D.deg (D.matrix g))
      && (blocks_ok (level_at n T i) D && all_below (suc i) (λ g. all_below D.deg (λ c. eqb (D.ref g c) (D.ref 0 c))))
      && all_below n (λ j. ltb j (suc i)
      || (ltb (D.ref j 0) (length (level_at n T (suc i))) && all_below D.deg (λ c. eqb (D.ref j c) (D.ref j 0))))

  abbrev pub level_ok : Bool
  level_ok = all_below (length (level_at n T (suc i))) (λ r. body (rep_of (level_at n T (suc i)) r))

pub record LevelOver (s : Scope) (T : List ℕ) (i count : ℕ) : Type 0 where
  pub whole : Whole s T
  pub level : i ≤ s.gens
  pub counts : count ≡ length (level_at s.gens T i)

pub record Spans (s : Scope) (T : List ℕ) (D : Listed) : Type 0 where
  pub room : 8 * line_in D s.gens ≤ length T
  pub positive : 0 < D.deg

pub record LevelsBehind (s : Scope) (T : List ℕ) (k : ℕ) : Type 0 where
  pub within : k ≤ s.gens
  pub known : (i : ℕ) → i < k → level_ok s.gens s.m T i ≡ true

pub record FormBehind (s : Scope) (orders T : List ℕ) (k : ℕ) : Type 0 where
  pub heads : 0 < k → heads_ok s.gens T (orders_in orders) ≡ true
  pub levels : LevelsBehind s T k

pub record TellsForm (s : Scope) (orders T : List ℕ) (r : Bool) : Type 0 where
  pub is : (P : Presentation) → Ordered P s orders → r ≡ not (malformed P s.m T)
