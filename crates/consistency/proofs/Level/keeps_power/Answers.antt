-- `keeps_power` meets its contract: both sides of the power relation, over the images.
use Rattle.consistency.proofs.Answers.{power-kept}
use Rattle.consistency.proofs.Level.keeps_power.Goals as goal

pub returns : goal.returns
returns c = power-kept c.args.self.now.imaged c.requires c.power-l.ensures c.word-u.ensures c.value-v.ensures c.same.ensures
