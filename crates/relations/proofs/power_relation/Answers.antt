-- `power_relation` looks the prime and the power word up.
use mathlib.Core.Path.{refl}
use Rattle.relations.proofs.Relations.{power-read}
use Rattle.relations.proofs.power_relation.Goals as goal

pub returns : goal.returns
returns c = λ P R.
    let t = c.up-t in
    c.power_holds.ensures P (power-read R c.args.j t.result _ c.word-u.result c.requires.1 t.ensures refl c.word-u.ensures)
