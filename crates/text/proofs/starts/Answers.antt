-- The library compares the bytes.
use Rattle.text.proofs.Reading.{starts-is}
use Rattle.text.proofs.starts.Goals as goal

pub returns : goal.returns
returns c = starts-is c.args.text.now c.args.at c.args.s.now c.starts_with.result c.starts_with.ensures.value
