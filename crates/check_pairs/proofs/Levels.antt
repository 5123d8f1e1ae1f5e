-- What the tests say of a level and of a table.
--
--   found-placed                  a representation that is found is placed
--   placed-later                  and one block or not, by the width of its first
--   own-told                      what the test of one representation says
--   stands-fails, stands-rest     with those before it
--   PassingOn, level-fails, level_holds        the representations of a level
--   suspect-fails                 one of them that is not apart
--   Owning, owns-fails, owns-all     the blocks of each representation of a level
--   level-claimed                 they decide where no two claim one slot
--   PassingUpTo, table-known, table_more, table-fails, table-holds      the levels
use mathlib.Core.Path.{◌≡◌, sym, ◌∙◌, ap, ap₂, subst}
use mathlib.Core.Bool.{Bool, true, false, ◌&&◌, ◌||◌}
use mathlib.Core.List.{List}
use Prim.Native.Nat.{ℕ, suc, ◌+◌, ◌≤◌, ◌<◌}
use native.Mathlib.Numerals.{add-one}
use native.Mathlib.Omega.{arith}
use lib.Dec.{eqb, leb}
use lib.ListN.{length, get_or}
use Rattle.definitions.specs.Lists.{all_below}
use Rattle.definitions.specs.Presentation.{Presentation}
use Rattle.definitions.specs.Monomial.{col, Rep, rep_of}
use Rattle.definitions.specs.Table.{level_at}
use Rattle.definitions.specs.Judgement.{cuts}
use Rattle.numbers.proofs.Lists.{all_below-fails}
use Rattle.numbers.proofs.Passed.{Passed, passed-more, passed-all, passed-fails}
use Rattle.level.specs.declared.Listed.{Listed}
use Rattle.seek.specs.declared.Scope.{Scope}
use Rattle.seek.specs.Seek.{Found}
use Rattle.seek.specs.Formed.{Formed}
use Rattle.separation.specs.Decision.{block_count, outside, own, apart, pairwise}
use Rattle.separation.proofs.Own.{own-refs}
use Rattle.seek.specs.Among.{rep_in}
use Rattle.claims.specs.Claims.{Unshared}
use Rattle.check_pairs.specs.Pairs.{PlacedAt, Later, own_of, width_in, EarlierApart, stands_in, PrimeOf, StandsApart, AllOwn, LevelSeparated}
use Rattle.check_pairs.specs.Pairs.{PrimesOf, ApartBehind, AllSeparated}
use Rattle.seek.proofs.Columns.{first_ref}
use Rattle.seek.proofs.Seek.{found-above}
use Rattle.check_pairs.proofs.Claimed.{unshared-pairs}
use Rattle.check_pairs.proofs.Pairs.{at_count, positive-at, whole-at}

-- ---- One representation

pub found-placed : {P : Presentation} {s : Scope} {T : List ℕ} → Formed P s T → {i r : ℕ} {D : Listed} → i < s.gens
    → Found s.gens T (i + 1) r D → PlacedAt s T i r D
found-placed {P} F l G = record { presented = P; formed = F; level = l; found = found-above G }

module _ {s : Scope} {T : List ℕ} {i r : ℕ} {D : Listed} (l : i < s.gens) (G : Found s.gens T (i + 1) r D) where
  own_is : (P : Presentation) → Formed P s T → own P T i r ≡ own_of (level_at P.n T i) (P.p i) i (rep_of (level_at P.n T (suc i)) r)
  unfolding own block_count outside
  own_is P F =
      let low = level_at P.n T i in
      let R : Rep = rep_of (level_at P.n T (suc i)) r in
      ap (λ x. eqb (length (cuts low R)) 1 || (eqb (length (cuts low R)) (P.p i) && leb (rep_of low (R.ref 0 0)).deg (col (R.matrix i) 0).row && x))
      (own-refs P T i r (positive-at F i l i (omega arith)) (whole-at F i l r (at_count F i l (found-above G)).listed))

  pub own-told : {p : ℕ} {b : Bool} → b ≡ own_of (level_at s.gens T i) p i (rep_in T D) → (P : Presentation) → PrimeOf s T i p P → b ≡ own P T i r
  own-told {p} h P F =
      let H = at_count F.formed i l (found-above G) in
      h ∙ ap₂ (λ n p. own_of (level_at n T i) p i (rep_in T D)) F.formed.gens_are F.prime
      ∙ ap (own_of (level_at P.n T i) (P.p i) i) (sym H.rep) ∙ sym (own_is P F.formed)

  module _ {p : ℕ} {b : Bool} (h : b ≡ own_of (level_at s.gens T i) p i (rep_in T D)) where
    pub stands-fails : b ≡ false → StandsApart s T i p r false
    stands-fails e = record { is = λ P F. sym (ap (λ x. x && all_below r (λ r'. apart P T i r' r)) (sym (own-told h P F) ∙ e)) }

    pub stands-rest : b ≡ true → {c : Bool} → EarlierApart s T i r c → StandsApart s T i p r c
    stands-rest e t = record { is = λ P F. t.is P F.formed ∙ sym (ap (λ x. x && all_below r (λ r'. apart P T i r' r)) (sym (own-told h P F) ∙ e)) }

pub placed-later : {s : Scope} {T : List ℕ} {i r : ℕ} {D : Listed} {w : ℕ} → PlacedAt s T i r D → w ≡ width_in s T i D 0 → Later s T i r (eqb w D.deg) D
placed-later {s} {T} {i} {r} {D} L e =
    record { placed = L; one_is = ap (λ x. eqb x D.deg) (e ∙ ap (λ x. (rep_of (level_at s.gens T i) x).deg) (first_ref T D)) }

-- ---- The representations of a level

module _ (s : Scope) (T : List ℕ) (i p : ℕ) where
  abbrev pub PassingOn : ℕ → Type 0
  PassingOn r = Passed (PrimeOf s T i p) (λ P r. stands_in P T i r) r

  level-is : (P : Presentation) → PrimeOf s T i p P → all_below (length (level_at s.gens T (i + 1))) (λ r. stands_in P T i r) ≡ pairwise P T i
  unfolding pairwise
  level-is P F = ap₂ (λ n k. all_below (length (level_at n T k)) (λ r. stands_in P T i r)) F.formed.gens_are (add-one i)

  pub level-fails : {r : ℕ} {b : Bool} → PassingOn r → r < length (level_at s.gens T (i + 1)) → StandsApart s T i p r b → b ≡ false → LevelSeparated s T i p false
  level-fails h l t e = record { is = λ P F. passed-fails h l t.is e P F ∙ level-is P F }

  pub suspect-fails : {r : ℕ} {b : Bool} → r < length (level_at s.gens T (i + 1)) → StandsApart s T i p r b → b ≡ false → LevelSeparated s T i p false
  suspect-fails l t e = record { is = λ P F. sym (all_below-fails _ (stands_in P T i) _ l (sym (t.is P F) ∙ e)) ∙ level-is P F }

  pub level_holds : {r : ℕ} → PassingOn r → length (level_at s.gens T (i + 1)) ≤ r → LevelSeparated s T i p true
  level_holds h l = record { is = λ P F. passed-all h l P F ∙ level-is P F }

-- ---- The blocks of each representation of a level

module _ (s : Scope) (T : List ℕ) (i p : ℕ) where
  abbrev pub Owning : ℕ → Type 0
  Owning r = Passed (PrimeOf s T i p) (λ P r. own P T i r) r

  owns-is : (P : Presentation) → PrimeOf s T i p P
      → all_below (length (level_at s.gens T (i + 1))) (own P T i) ≡ all_below (length (level_at P.n T (suc i))) (own P T i)
  owns-is P F = ap₂ (λ n k. all_below (length (level_at n T k)) (own P T i)) F.formed.gens_are (add-one i)

  pub owns-fails : {r : ℕ} {b : Bool} → Owning r → r < length (level_at s.gens T (i + 1)) → ((P : Presentation) → PrimeOf s T i p P → b ≡ own P T i r)
      → b ≡ false → AllOwn s T i p false
  owns-fails h l t e = record { is = λ P F. passed-fails h l t e P F ∙ owns-is P F }

  pub owns-all : {r : ℕ} → Owning r → length (level_at s.gens T (i + 1)) ≤ r → AllOwn s T i p true
  owns-all h l = record { is = λ P F. passed-all h l P F ∙ owns-is P F }

  pub level-claimed : i < s.gens → Unshared i (level_at s.gens T (suc i)) → {b : Bool} → AllOwn s T i p b → LevelSeparated s T i p b
  level-claimed l U t = record {
    is = λ P F.
        let G = F.formed in
        t.is P F ∙ unshared-pairs P T i (positive-at G i l i (omega arith)) (positive-at G i l (suc i) l) (whole-at G i l)
        (subst (λ n. Unshared i (level_at n T (suc i))) G.gens_are U);
  }

-- ---- The levels

module _ (s : Scope) (primes T : List ℕ) where
  abbrev pub PassingUpTo : (k i : ℕ) → Type 0
  PassingUpTo k i = Passed (ApartBehind s primes T k) (λ P i. pairwise P T i) i

  pub table-known : {k : ℕ} → PassingUpTo k k
  table-known = record { tested = λ P F. record { each = F.known } }

  prime-at : (i p : ℕ) → i < s.gens → p ≡ get_or primes i 0 → (P : Presentation) → PrimesOf s primes T P → PrimeOf s T i p P
  prime-at i p l e P F = record { formed = F.formed; prime = e ∙ F.prime i l }

  all-levels : (P : Presentation) → PrimesOf s primes T P → all_below s.gens (pairwise P T) ≡ all_below P.n (pairwise P T)
  all-levels P F = ap (λ n. all_below n (pairwise P T)) F.formed.gens_are

  module _ {i p : ℕ} {b : Bool} (l : i < s.gens) (is : p ≡ get_or primes i 0) (t : LevelSeparated s T i p b) where
    pub table_more : {k : ℕ} → PassingUpTo k i → b ≡ true → PassingUpTo k (i + 1)
    table_more h e = passed-more h (λ P F. t.is P (prime-at i p l is P F.primed)) e

    pub table-fails : {k : ℕ} → PassingUpTo k i → b ≡ false → AllSeparated s primes T k false
    table-fails h e = record { is = λ P F. passed-fails h l (λ P F. t.is P (prime-at i p l is P F.primed)) e P F ∙ all-levels P F.primed }

  pub table-holds : {k i : ℕ} → PassingUpTo k i → s.gens ≤ i → AllSeparated s primes T k true
  table-holds h l = record { is = λ P F. passed-all h l P F ∙ all-levels P F.primed }
