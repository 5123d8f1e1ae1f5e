-- `keeps_commutator` meets its contract: both sides of the commutator relation, over the images.
use Rattle.consistency.proofs.Answers.{commutator-kept}
use Rattle.consistency.proofs.Level.keeps_commutator.Goals as goal

pub returns : goal.returns
returns c = commutator-kept c.args.self.now.imaged c.requires.0 c.requires.1 c.product-l.ensures c.word-w.ensures c.value-v.ensures
    c.product-s.ensures c.product-r.ensures c.same.ensures
