-- `measure`: the answer about the text, then the words of the size.
use Rattle.results.proofs.Numbers.{answer-ok}
use Rattle.measurement.proofs.Sizes.{measurable}
use Rattle.measurement.proofs.Measured.{measure-sized}
use Rattle.measurement.proofs.measure.Goals as goal

pub measure-requires-clause-by_index : goal.measure-requires-clause-by_index
measure-requires-clause-by_index c = measurable (c.accepted.ensures.sound (answer-ok c.in_ok-accepted.was)).2

pub returns : goal.returns
returns c = measure-sized c.accepted.ensures (answer-ok c.in_ok-accepted.was) c.measure.ensures
