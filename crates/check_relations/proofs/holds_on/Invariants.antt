-- `holds_on` goes through the representations of the level.
use mathlib.Core.List.{List}
use Prim.Native.Nat.{ℕ}
use Rattle.seek.proofs.Walk.{Walked}
use Rattle.seek.proofs.Among.{PassingOn}
use Rattle.check_relations.specs.Asked.{RepTest, Tests}
use Rattle.check_relations.proofs.Everywhere.{Posing, asks}
use Rattle.check_relations.proofs.holds_on.Given as goal

abbrev pub invariant-loop-d : goal.invariant-loop-d
invariant-loop-d g l = Walked l.fn.s l.words l.i (λ r. (q : RepTest) (rows : List (List ℕ)) (primes : List ℕ)
    → Tests (goal.F-post g l.test) q l.fn.s rows primes l.words → PassingOn l.fn.s l.words (Posing l.fn.s rows primes l.words) (asks q l.fn.s l.words) l.i r) l.d-iterator
