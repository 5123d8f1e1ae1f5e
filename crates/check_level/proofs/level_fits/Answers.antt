-- `level_fits` compares, then asks the intertwiners.
use Rattle.check_level.proofs.Level as level
use Rattle.check_level.proofs.level_fits.Goals as goal

pub returns : goal.returns
returns c = λ e. level.level-fits c.requires.0 (c.level_compares.ensures (c.if-not-level_compares.false))
    (c.level_relates.ensures e)
