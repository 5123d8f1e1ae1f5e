-- The digits of a tenth of the value, then its last digit.
use native.Mathlib.Omega.{arith}
use Rattle.definitions.proofs.Rendering.{tenth-less, decimal_nonempty, decimal-length-more}
use Rattle.text.proofs.Writing.{wrote-last, wrote-digit, wrote-length}
use Rattle.text.proofs.+put_value.Goals as goal

pub put_byte-requires : goal.put_byte-requires
put_byte-requires t c = omega (arith, decimal_nonempty c.args.v)

pub returns-then-v-lt10 : goal.returns-then-v-lt10
returns-then-v-lt10 t c = wrote-last _ _ c.last_digit-d.ensures (omega arith) c.put_byte.ensures

pub put_value-next-requires : goal.put_value-next-requires
put_value-next-requires t c =
    let v = c.args.v in
    (omega (arith, tenth-less v (omega arith)), omega (arith, decimal-length-more v (omega arith)))

pub put_byte-requires-2 : goal.put_byte-requires-2
put_byte-requires-2 t c =
    let w = c.put_value-next.ensures in
    omega (arith, w.end, w.room, wrote-length w, decimal-length-more c.args.v (omega arith))

pub returns : goal.returns
returns t c = wrote-digit _ _ c.last_digit-d.ensures (omega arith) c.put_value-next.ensures c.put_byte-2.ensures
