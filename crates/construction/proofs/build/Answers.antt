-- `build`: the answer about the text, then that of the build.
use Rattle.results.proofs.Numbers.{answer-ok}
use Rattle.construction.proofs.Built.{build-sized}
use Rattle.construction.proofs.build.Goals as goal

pub returns : goal.returns
returns c = build-sized c.accepted.ensures (answer-ok c.in_ok-accepted.was) c.build_sound.ensures
