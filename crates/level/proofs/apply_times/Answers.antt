-- `apply_times`: once, or the power.
use Rattle.level.proofs.Columns.{turns-one}
use Rattle.level.proofs.apply_times.Goals as goal

pub returns-then-k-eq1 : goal.returns-then-k-eq1
returns-then-k-eq1 c = (turns-one _ c.if-k-eq1.true c.apply.ensures.0, c.apply.ensures.1)
