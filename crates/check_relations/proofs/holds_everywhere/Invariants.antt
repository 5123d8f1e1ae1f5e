-- `holds_everywhere` tests the levels one by one.
use mathlib.Core.List.{List}
use Prim.Native.Nat.{ℕ}
use Rattle.seek.proofs.Among.{UpTo}
use Rattle.check_relations.specs.Asked.{RepTest, Tests}
use Rattle.check_relations.proofs.Everywhere.{Behind, asks}
use Rattle.check_relations.proofs.holds_everywhere.Given as goal

abbrev pub invariant-loop-i : goal.invariant-loop-i
invariant-loop-i g l = (q : RepTest) (rows : List (List ℕ)) (primes : List ℕ) → Tests (goal.F-post g l.test) q l.s rows primes l.words
    → UpTo l.s l.words (Behind q l.s rows primes l.words l.from) (asks q l.s l.words) l.i
