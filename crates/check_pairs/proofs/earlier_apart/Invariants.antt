-- `earlier_apart` goes through the representations before the last.
use mathlib.Core.Path.{◌≡◌}
use Prim.Native.Nat.{◌+◌}
use Rattle.seek.proofs.Walk.{Walked}
use Rattle.check_pairs.proofs.Pairs.{Passing}
use Rattle.check_pairs.proofs.earlier_apart.Given as goal

abbrev pub invariant-loop-d : goal.invariant-loop-d
invariant-loop-d l = record {
  walked : Walked l.fn.s l.words (l.i + 1) (Passing l.fn.s l.words l.i l.last) l.d-iterator.iter;
  counted : l.d-iterator.iter.rep + l.d-iterator.n ≡ l.last;
}
