-- The value falls to its tenth.
use Rattle.text.proofs.+put_value.Given as goal

abbrev pub decreases-put_value : goal.decreases-put_value
decreases-put_value l = l.v
