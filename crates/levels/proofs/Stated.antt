-- What a text says, as the theorems about levels ask for it.
--
--   small             relations that refusal 13 lets pass are small
--   reads-accepted    rows of the relations are those of the accepted presentation
--   table-of          the words of all levels are the table of the relations
--   room_of           the words of the first levels have room
use mathlib.Core.Path.{◌≡◌, sym, ◌∙◌, ap, subst}
use mathlib.Core.Bool.{true, false}
use mathlib.Core.List.{List}
use Prim.Native.Nat.{ℕ, ◌≤◌}
use lib.Dec.{ltb}
use lib.ListN.{length}
use borrow.Author.Tests.{ltb-false}
use Rattle.definitions.specs.Presentation.{max_generators, max_order, order, build_words, Relations, well_formed, presentation, some_not_prime, too_large, misused}
use Rattle.definitions.specs.Consistency.{Consistent}
use Rattle.definitions.specs.Steps.{table_of}
use Rattle.numbers.proofs.Bools.{or-false-left, or-false-right}
use Rattle.rows.specs.Rows.{Reads}
use Rattle.clifford.specs.Accepted.{Accepted}
use Rattle.clifford.proofs.Theorem.{accepted, accepted-is}
use Rattle.levels.specs.Built.{up_to, WithinCeilings}
use Rattle.levels.proofs.Places.{up_to-all}
use Rattle.levels.proofs.Room.{room}

module _ (R : Relations) (formed : well_formed R ≡ true) (primes : some_not_prime R ≡ false) (used : misused R ≡ false) (consistent : Consistent (presentation R)) where
  abbrev A : Accepted
  A = accepted R formed primes used consistent

  same : A.C.P ≡ presentation R
  same = accepted-is R formed primes used consistent

  few : too_large R ≡ false → (presentation R).n ≤ max_generators
  unfolding too_large presentation
  few h = ltb-false max_generators R.n (or-false-left (ltb max_generators R.n) _ h)

  low : too_large R ≡ false → order (presentation R) (presentation R).n ≤ max_order
  unfolding too_large presentation
  low h = ltb-false max_order _ (or-false-right (ltb max_generators R.n) _ h)

  pub small : too_large R ≡ false → WithinCeilings (accepted R formed primes used consistent)
  small h = record { few = subst (λ P. P.n ≤ max_generators) (sym same) (few h); low = subst (λ P. order P P.n ≤ max_order) (sym same) (low h) }

  -- ---- Rows

  pub reads-accepted : (ps : List ℕ) (rows : List (List ℕ)) → Reads (presentation R) R.n ps rows
      → Reads (accepted R formed primes used consistent).C.P (accepted R formed primes used consistent).C.P.n ps rows
  unfolding presentation
  reads-accepted ps rows h = subst (λ P. Reads P P.n ps rows) (sym same) h

  -- ---- The table

  pub table-of : up_to (accepted R formed primes used consistent) (accepted R formed primes used consistent).C.P.n ≡ table_of (presentation R)
  table-of = up_to-all A ∙ ap table_of same

  pub room_of : (k : ℕ) → k ≤ (accepted R formed primes used consistent).C.P.n → length (up_to (accepted R formed primes used consistent) k) ≤ build_words (presentation R)
  room_of k l = subst (λ P. length (up_to A k) ≤ build_words P) same (room A k l)
