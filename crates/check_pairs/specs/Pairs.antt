-- Pairs of representations that stand in lines.
--
--   other_ref T line x c    column c of the representation at a line has a reference other than x
--   like_in T one D E    `one`, and both have one degree and one first reference
--   one_block n T i E   E, of the level above level i, is one block
--   PlacedAt s T i r D   D is representation r of the level above level i of a well-formed table
--   Later s T i r one E      and `one` says whether it is one block
--   differ low p D     D has p blocks, with references of their own
--   own_of low p i D    D is one block, or has p blocks that generator i moves, with references of their own
--   RefersTo s T i D o, width_in      column o of D refers to a representation of level i, and its degree
--   EarlierApart s T i r b     b says whether all representations before r are apart from it
--   StandsApart, LevelSeparated     and of r with those before it, and of a level, where p is the prime of generator i (PrimeOf, TellsAt)
--   AllOwn                     and whether each representation of a level owns its blocks
--   PrimesOf, AllSeparated        and of all levels, by the primes of all generators, where the first k levels are so (ApartBehind)
use Rattle.std.specs.Prelude.{◌≡◌, Bool, true, ◌&&◌, ◌||◌, not, List, ℕ, suc, ◌+◌, ◌*◌, ◌≤◌, ◌<◌, eqb, leb, length, get_or}
use Rattle.definitions.specs.Lists.{all_below, all}
use Rattle.definitions.specs.Monomial.{col, Rep, Level, rep_of}
use Rattle.definitions.specs.Table.{REF, word_at, level_at}
use Rattle.definitions.specs.Presentation.{Presentation}
use Rattle.definitions.specs.Judgement.{cuts}
use Rattle.level.specs.declared.Listed.{Listed}
use Rattle.seek.specs.declared.Scope.{Scope}
use Rattle.seek.specs.Seek.{Whole, Found}
use Rattle.seek.specs.Among.{rep_in}
use Rattle.seek.specs.Formed.{Formed, Tells}
use Rattle.separation.specs.Decision.{own, apart, pairwise}
use Rattle.separation.specs.Apart.{fresh}

abbrev pub other_ref : List ℕ → (line x c : ℕ) → Bool
other_ref T line x c = not (eqb x (word_at T (line + c) REF))

abbrev pub like_in : List ℕ → Bool → Listed → Listed → Bool
like_in T one D E = one && eqb D.deg E.deg && eqb (word_at T D.line REF) (word_at T E.line REF)

abbrev pub one_block : ℕ → List ℕ → ℕ → Listed → Bool
one_block n T i E = eqb (rep_of (level_at n T i) (word_at T E.line REF)).deg E.deg

pub record PlacedAt (s : Scope) (T : List ℕ) (i r : ℕ) (D : Listed) : Type 0 where
  pub presented : Presentation
  pub formed : Formed presented s T
  pub level : i < s.gens
  pub found : Found s.gens T (suc i) r D

pub record Later (s : Scope) (T : List ℕ) (i r : ℕ) (one : Bool) (E : Listed) : Type 0 where
  pub placed : PlacedAt s T i r E
  pub one_is : one ≡ one_block s.gens T i E

-- ---- One representation

abbrev pub differ : Level → ℕ → Rep → Bool
differ low p D = eqb (length (cuts low D)) p && all (fresh D) (cuts low D)

abbrev pub own_of : Level → ℕ → ℕ → Rep → Bool
own_of low p i D =
    eqb (length (cuts low D)) 1
    || (eqb (length (cuts low D)) p && leb (rep_of low (D.ref 0 0)).deg (col (D.matrix i) 0).row && all (fresh D) (cuts low D))

-- column o of D refers to a representation of level i
pub record RefersTo (s : Scope) (T : List ℕ) (i : ℕ) (D : Listed) (o : ℕ) : Type 0 where
  pub whole : Whole s T
  pub level : i ≤ s.gens
  pub there : 8 * (D.line + o) + 8 ≤ length T
  pub listed : (rep_in T D).ref 0 o < length (level_at s.gens T i)

abbrev pub width_in : Scope → List ℕ → ℕ → Listed → ℕ → ℕ
width_in s T i D o = (rep_of (level_at s.gens T i) ((rep_in T D).ref 0 o)).deg

-- ---- Answers

abbrev pub EarlierApart : Scope → List ℕ → (i r : ℕ) → Bool → Type 0
EarlierApart s T i r b = Tells s T (λ P. all_below r (λ r'. apart P T i r' r)) b

-- representation r and those before it
abbrev pub stands_in : Presentation → List ℕ → (i r : ℕ) → Bool
stands_in P T i r = own P T i r && all_below r (λ r'. apart P T i r' r)

pub record PrimeOf (s : Scope) (T : List ℕ) (i p : ℕ) (P : Presentation) : Type 0 where
  pub formed : Formed P s T
  pub prime : p ≡ P.p i

pub record TellsAt (s : Scope) (T : List ℕ) (i p : ℕ) (q : Presentation → Bool) (b : Bool) : Type 0 where
  pub is : (P : Presentation) → PrimeOf s T i p P → b ≡ q P

abbrev pub StandsApart : Scope → List ℕ → (i p r : ℕ) → Bool → Type 0
StandsApart s T i p r b = TellsAt s T i p (λ P. stands_in P T i r) b

abbrev pub AllOwn : Scope → List ℕ → (i p : ℕ) → Bool → Type 0
AllOwn s T i p b = TellsAt s T i p (λ P. all_below (length (level_at P.n T (suc i))) (own P T i)) b

abbrev pub LevelSeparated : Scope → List ℕ → (i p : ℕ) → Bool → Type 0
LevelSeparated s T i p b = TellsAt s T i p (λ P. pairwise P T i) b

pub record PrimesOf (s : Scope) (primes T : List ℕ) (P : Presentation) : Type 0 where
  pub formed : Formed P s T
  pub prime : (k : ℕ) → k < s.gens → get_or primes k 0 ≡ P.p k

pub record ApartBehind (s : Scope) (primes T : List ℕ) (k : ℕ) (P : Presentation) : Type 0 where
  pub primed : PrimesOf s primes T P
  pub known : (i : ℕ) → i < k → pairwise P T i ≡ true

pub record AllSeparated (s : Scope) (primes T : List ℕ) (k : ℕ) (b : Bool) : Type 0 where
  pub is : (P : Presentation) → ApartBehind s primes T k P → b ≡ all_below P.n (pairwise P T)
