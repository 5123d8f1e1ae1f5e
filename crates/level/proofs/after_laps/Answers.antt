-- `after_laps`: the rounds of k at once, and the turns behind them.
use Rattle.level.proofs.Laps.{laps-power}
use Rattle.level.proofs.after_laps.Goals as goal

pub returns : goal.returns
returns c = let t = c.add_rounds.ensures.0 in
    let S = c.steps.ensures in
    (laps-power c.requires.holds c.requires.below.0 c.requires.below.1 c.rounds_of-s.ensures c.gain-e.ensures.0 t S.0, S.1)
