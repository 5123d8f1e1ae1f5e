-- The lines are read one by one: `Reading` is what has been read.
use Prim.Native.Nat.{◌-◌}
use lib.ListN.{length}
use Rattle.reader.proofs.Reading.{Reading}
use Rattle.reader.proofs.read_lines.Given as goal

abbrev pub invariant-loop-j : goal.invariant-loop-j
invariant-loop-j l = Reading l.text l.start l.n l.at l.j l.i l.k l.rows l.ps l.primes

abbrev pub decreases-loop-j : goal.decreases-loop-j
decreases-loop-j l = length l.text - l.at
