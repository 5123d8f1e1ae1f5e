-- `build_sound`: the size, then 16 or the levels, which are the table.
use native.Mathlib.Omega.{arith}
use lib.ListN.{length}
use Rattle.measurement.proofs.Sizes.{measurable}
use Rattle.construction.proofs.Built.{given, sized-short, sized-done}
use Rattle.construction.proofs.build_sound.Goals as goal

pub measure-size-requires-clause-by_index : goal.measure-size-requires-clause-by_index
measure-size-requires-clause-by_index c = measurable c.requires.1

pub returns-then-words-size : goal.returns-then-words-size
returns-then-words-size c = sized-short c.measure-size.ensures c.args.words.now (omega arith)

pub build_levels-lines-requires : goal.build_levels-lines-requires
build_levels-lines-requires c = (_, given c.requires.1 c.measure-size.ensures (length c.args.words.now) (omega arith))

pub returns : goal.returns
returns c = sized-done c.measure-size.ensures c.args.words.now (omega arith) c.build_levels-lines.ensures
