-- `check_sound`: the judgement with the order for the modulus.
use Rattle.measurement.proofs.Sizes.{measurable}
use Rattle.verdict.proofs.Checked.{task-of, checks-of}
use Rattle.verdict.proofs.check_sound.Goals as goal

pub measure-size-requires-clause-by_index : goal.measure-size-requires-clause-by_index
measure-size-requires-clause-by_index c = let (R, S) = c.requires in measurable S

pub judge-requires : goal.judge-requires
judge-requires c = let (R, S) = c.requires in
    (_, task-of S c.measure-size.ensures)

pub returns : goal.returns
returns c = checks-of c.measure-size.ensures c.judge.ensures
