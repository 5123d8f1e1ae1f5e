-- `reaches` meets its contract: the table is right below j.
use mathlib.Core.Path.{◌≡◌}
use lib.ListN.{length}
use Rattle.definitions.specs.Presentation.{max_generators}
use Rattle.commuting.specs.Commuting.{Quiet}
use Rattle.commuting.proofs.reaches.Given as goal

abbrev pub invariant-loop-j : goal.invariant-loop-j
invariant-loop-j l = (length l.r ≡ max_generators) × Quiet l.j l.rows l.r
