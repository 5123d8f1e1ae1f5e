-- `scaled` meets its contract: exponent 0, or a power and a product.
use Rattle.collector.proofs.Steps.{scaled-zero, scaled-more}
use Rattle.collector.proofs.Collector.scaled.Goals as goal

pub returns-then-e-eq0 : goal.returns-then-e-eq0
returns-then-e-eq0 c = scaled-zero c.if-e-eq0.true c.requires.2

pub returns : goal.returns
returns c = scaled-more c.power-q.ensures c.product.ensures
