-- The value falls to its tenth.
use Rattle.text.proofs.+width.Given as goal

abbrev pub decreases-width : goal.decreases-width
decreases-width l = l.v
