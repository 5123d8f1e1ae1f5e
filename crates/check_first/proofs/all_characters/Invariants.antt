-- `all_characters` goes through the representations.
use Prim.Native.Nat.{ℕ, ◌-◌, ◌<◌}
use lib.ListN.{length}
use Rattle.check_first.specs.First.{Character}
use Rattle.check_first.proofs.Marks.{SlotsTaken}
use Rattle.check_first.proofs.all_characters.Given as goal

abbrev pub invariant-loop-k : goal.invariant-loop-k
invariant-loop-k l = SlotsTaken (length l.initial.free) l.s.gens l.words l.p l.part l.k l.free × ((q : ℕ) → q < l.k → Character l.s l.words l.rows l.p q)

abbrev pub decreases-loop-k : goal.decreases-loop-k
decreases-loop-k l = l.p - l.k
