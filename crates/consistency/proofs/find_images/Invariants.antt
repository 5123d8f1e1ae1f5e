-- `images` meets its contract: the first k rows are images.
use mathlib.Core.Path.{◌≡◌}
use lib.ListN.{length}
use Rattle.definitions.specs.Presentation.{max_generators}
use Rattle.consistency.specs.Images.{Images}
use Rattle.consistency.proofs.find_images.Given as goal

abbrev pub invariant-loop-k : goal.invariant-loop-k
invariant-loop-k l = (length l.images ≡ max_generators) × Images l.i l.collector.primes.now l.collector.rows.now l.images l.k
