-- `is_inner_at` meets its contract: both sides of u f^p(g) = g u.
use Rattle.consistency.proofs.Answers.{inner-at}
use Rattle.consistency.proofs.Level.is_inner_at.Goals as goal

pub returns : goal.returns
returns c = inner-at c.word-u.ensures c.generator-g.ensures c.turned-t.ensures c.product-left.ensures c.product-right.ensures c.same.ensures
