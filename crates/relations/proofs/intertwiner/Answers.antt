-- `intertwiner` compares the degrees, then carries the generators of the level over.
use Rattle.relations.proofs.Intertwiners.{formed-kept, among-kept, intertwines-degree, intertwines-rest}
use Rattle.relations.proofs.intertwiner.Goals as goal

pub returns-then-to-from : goal.returns-then-to-from
returns-then-to-from c = λ P S.
    let a = c.args in
    intertwines-degree a.s a.words.now a.d P a.i a.j S.gens_are c.led_to-e.result c.led_to-e.ensures c.if-to-from.true

pub all_carried-requires : goal.all_carried-requires
all_carried-requires c = let (A, l, h) = c.requires in
    (among-kept A, formed-kept A.formed _ _ c.led_to-e.ensures, c.if-to-from.false, l, h)

pub returns : goal.returns
returns c = λ P S.
    let a = c.args in
    intertwines-rest a.s a.words.now a.d P a.i a.j S.gens_are c.led_to-e.result c.led_to-e.ensures c.if-to-from.false
    (c.all_carried.ensures P S)
