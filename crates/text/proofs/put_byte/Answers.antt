-- One store.
use Rattle.text.proofs.Writing.{wrote_one}
use Rattle.text.proofs.put_byte.Goals as goal

pub returns : goal.returns
returns c = wrote_one c.args.out.now c.args.at c.args.b c.requires
