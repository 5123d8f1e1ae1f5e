-- `rises` meets its contract: the table is right below c.
use mathlib.Core.Path.{◌≡◌}
use lib.ListN.{length}
use Rattle.definitions.specs.Presentation.{max_generators}
use Rattle.commuting.specs.Commuting.{Central}
use Rattle.commuting.proofs.rises.Given as goal

abbrev pub invariant-loop-c : goal.invariant-loop-c
invariant-loop-c l = (length l.r ≡ max_generators) × Central l.c l.rows l.r
