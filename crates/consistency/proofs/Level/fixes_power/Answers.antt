-- `fixes_power` meets its contract: one conjugate, compared.
use Rattle.consistency.proofs.Answers.{power-fixed}
use Rattle.consistency.proofs.Level.fixes_power.Goals as goal

pub returns : goal.returns
returns c = power-fixed c.word-u.ensures c.conjugate-c.ensures c.same.ensures
