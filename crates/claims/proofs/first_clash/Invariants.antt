-- `first_clash` goes through the representations of the level.
use mathlib.Core.Path.{◌≡◌}
use Prim.Native.Nat.{suc, ◌+◌}
use Rattle.definitions.specs.Table.{level_at}
use Rattle.seek.proofs.Walk.{Walked}
use Rattle.claims.proofs.Claims.{Claims}
use Rattle.claims.proofs.first_clash.Given as goal

abbrev pub invariant-loop-r : goal.invariant-loop-r
invariant-loop-r l = record {
  walked : Walked l.fn.s l.words (l.i + 1) (λ r. Claims l.i l.p l.part (level_at l.fn.s.gens l.words (suc l.i)) r l.marks l.slots) l.r-iterator.iter;
  counted : l.r-iterator.count ≡ l.r-iterator.iter.rep;
}
