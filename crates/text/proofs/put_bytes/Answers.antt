-- The library copies the bytes.
use Rattle.text.proofs.Writing.{wrote-slice}
use Rattle.text.proofs.put_bytes.Goals as goal

pub returns : goal.returns
returns c = let a = c.args in wrote-slice a.out.now a.s.now a.at c.requires c.copy_from_slice.ensures.after
