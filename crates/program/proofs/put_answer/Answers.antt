-- `put_answer` meets its contract: name, number and the end of a line, one behind the other.
use native.Mathlib.Omega.{arith}
use Rattle.text.proofs.Writing.{wrote-length}
use Rattle.program.proofs.Answered.{number_short, answered}
use Rattle.program.proofs.put_answer.Goals as goal

pub put_value-end-requires : goal.put_value-end-requires
put_value-end-requires c = let name = c.put_bytes-name.ensures in
    omega (arith, name.end, wrote-length name, number_short c.args.number (omega arith))

pub put_byte-requires : goal.put_byte-requires
put_byte-requires c = let name = c.put_bytes-name.ensures in
    let number = c.put_value-end.ensures in
    omega (arith, name.end, wrote-length name, number.end, wrote-length number, number_short c.args.number (omega arith))

pub returns : goal.returns
returns c = answered c.args.number c.put_bytes-name.ensures c.put_value-end.ensures c.put_byte.ensures
