-- What the representations of a level claim of the level below, by marks: of a representation nothing is claimed, slots, or all of it,
-- and a slot is claimed or not.
--
--   OneReference D             all columns of generator 0 have one reference
--   top_exponent i D            the exponent of generator i in column 0
--   Apart i D E                where D and E share a reference they have no other, and differ in that exponent
--   Unshared i L               every two representations of L are apart so
--   FirstClash i L k           k is a representation of L, or there is none, and all of them are apart so
--   one_reference D             the same as a test
--   slot_of i p part D          the slot of a representation with one reference
--   StaysMarked M N            marks that are not free stay
--   StaysClaimed S U           slots that are claimed stay so
--   Took f last M N            f was free or is `last`, and is marked whole in N
--   TookAll D M N              so for all references of D
--   Shares f x M N S U         f was not claimed whole nor slot x at all, and both are marked in N and U
--   Claimed i p part D M N S U, ClaimedIn      what D claims was free in M and S, and is marked in N and U
use Rattle.std.specs.Prelude.{◌≡◌, Bool, true, false, List, ℕ, ◌+◌, ◌*◌, ◌/◌, ◌<◌, eqb, length, get_or, Option, MatchOption}
use Rattle.definitions.specs.Lists.{all_below}
use Rattle.definitions.specs.Monomial.{col, Rep, Level, rep_of}
use Rattle.level.specs.declared.Listed.{Listed}
use Rattle.seek.specs.Among.{rep_in}
use Rattle.claims.specs.declared.Mark.{Mark}
use Rattle.claims.specs.declared.Mark.TheVariants.{Free, Shared, Taken}

-- ---- A level

abbrev pub OneReference : Rep → Type 0
OneReference D = (c : ℕ) → c < D.deg → D.ref 0 c ≡ D.ref 0 0

abbrev pub top_exponent : ℕ → Rep → ℕ
top_exponent i D = (col (D.matrix i) 0).exp

abbrev pub Apart : ℕ → Rep → Rep → Type 0
Apart i D E =
    (c c' : ℕ) → c < D.deg → c' < E.deg → D.ref 0 c ≡ E.ref 0 c' → OneReference D × OneReference E × ¬ (top_exponent i D ≡ top_exponent i E)

pub record Unshared (i : ℕ) (L : Level) : Type 0 where
  pub apart : (r r' : ℕ) → r < length L → r' < length L → ¬ (r ≡ r') → Apart i (rep_of L r) (rep_of L r')

abbrev pub FirstClash : ℕ → Level → Option ℕ → Type 0
FirstClash i L k = MatchOption k (Unshared i L) (λ r. r < length L)

-- ---- Claims

abbrev pub one_reference : Rep → Bool
one_reference D = all_below D.deg (λ c. eqb (D.ref 0 c) (D.ref 0 0))

abbrev pub slot_of : (i p part : ℕ) → Rep → ℕ
slot_of i p part D = D.ref 0 0 * p + top_exponent i D / part

abbrev pub StaysMarked : (M N : List Mark) → Type 0
StaysMarked M N = (f : ℕ) → ¬ (get_or M f Free ≡ Free) → get_or N f Free ≡ get_or M f Free

abbrev pub StaysClaimed : (S U : List Bool) → Type 0
StaysClaimed S U = (x : ℕ) → get_or S x false ≡ true → get_or U x false ≡ true

pub record Took (f last : ℕ) (M N : List Mark) : Type 0 where
  pub inside : f < length M
  pub size : length N ≡ length M
  pub free : ¬ (f ≡ last) → get_or M f Free ≡ Free
  pub marked : ¬ (f ≡ last) → get_or N f Free ≡ Taken
  pub again : f ≡ last → N ≡ M
  pub kept : StaysMarked M N

pub record TookAll (D : Rep) (M N : List Mark) : Type 0 where
  pub free : (c : ℕ) → c < D.deg → get_or M (D.ref 0 c) Free ≡ Free
  pub marked : (c : ℕ) → c < D.deg → get_or N (D.ref 0 c) Free ≡ Taken
  pub kept : StaysMarked M N

pub record Shares (f x : ℕ) (M N : List Mark) (S U : List Bool) : Type 0 where
  pub whole_free : ¬ (get_or M f Free ≡ Taken)
  pub slot_free : get_or S x false ≡ false
  pub marked : get_or N f Free ≡ Shared
  pub slot_marked : get_or U x false ≡ true
  pub kept : StaysMarked M N
  pub slots_kept : StaysClaimed S U

-- as a representation with one reference, or as any other
pub record Claimed (i p part : ℕ) (D : Rep) (M N : List Mark) (S U : List Bool) : Type 0 where
  pub one : one_reference D ≡ true → Shares (D.ref 0 0) (slot_of i p part D) M N S U
  pub many : one_reference D ≡ false → TookAll D M N × (U ≡ S)

-- the same of the representation at some lines of a table
abbrev pub ClaimedIn : List ℕ → (i p part : ℕ) → Listed → (M N : List Mark) → (S U : List Bool) → Type 0
ClaimedIn T i p part D M N S U = Claimed i p part (rep_in T D) M N S U
