-- `levels_to`: the measure is the count of levels.
use Rattle.levels.proofs.+levels_to.Given as goal

abbrev pub decreases-levels_to : goal.decreases-levels_to
decreases-levels_to l = l.i
