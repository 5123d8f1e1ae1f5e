-- Exponents that conjugation keeps, and generators that commute.
--
--   moved-reach                   from its reach on, conjugation by a generator keeps a row
--   keeps-empty                   an exponent 1 is kept only where the word is empty
--   rise-first                    a generator that commutes with those below it
use mathlib.Core.Path.{◌≡◌, sym, ◌∙◌, ap}
use mathlib.Core.Bool.{true, ◌||◌}
use mathlib.Core.List.{List, []}
use Prim.Native.Nat.{ℕ, suc, ◌+◌, ◌≤◌}
use native.Mathlib.Omega.{arith}
use lib.ListN.{get_or}
use borrow.Author.Tests.{ne_eqb}
use Rattle.definitions.specs.Presentation.{pair_number}
use Rattle.commuting.specs.Commuting.{empty_at, keeps, KeepsFrom, Reach, Rise}

pub moved-reach : {rows : List (List ℕ)} {j k r : ℕ} {x : List ℕ} → k ≤ j → r ≤ k → Reach rows j r → KeepsFrom rows k j x r
moved-reach {x = x} l a t = record { less = omega arith; rest = λ q b c. t.rest q (get_or x q 0) b (omega arith) }

pub keeps-empty : (rows : List (List ℕ)) (j l : ℕ) → keeps rows j l 1 ≡ true → empty_at (suc l) (get_or rows (pair_number j l) []) ≡ true
keeps-empty rows j l h = sym (ap (λ t. t || empty_at (suc l) (get_or rows (pair_number j l) [])) (ne_eqb 1 0 (λ e. omega arith))) ∙ h

pub rise-first : {rows : List (List ℕ)} {c : ℕ} → Reach rows c 0 → Rise rows c (c + 1)
rise-first t = record { at = λ i l. record { below = λ k a. t.rest k 1 (omega arith) a; above = λ j a b. absurd (omega arith) } }
