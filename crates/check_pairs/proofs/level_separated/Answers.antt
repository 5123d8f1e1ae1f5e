-- `level_separated` asks for pairs only where claims do not decide.
use mathlib.Core.Path.{ap}
use native.Mathlib.Numerals.{add-one}
use native.Mathlib.Omega.{arith}
use lib.ListN.{length}
use Rattle.definitions.specs.Table.{level_at}
use Rattle.check_pairs.proofs.Levels.{level-claimed}
use Rattle.check_pairs.proofs.level_separated.Goals as goal

pub returns-in-None : goal.returns-in-None
returns-in-None c = let a = c.args in
    level-claimed a.s a.words.now a.i a.p c.requires.1 c.in-None.ensures c.all_own.ensures

pub suspect_apart-requires : goal.suspect_apart-requires
suspect_apart-requires c = let a = c.args in
    let e = ap (λ k. length (level_at a.s.gens a.words.now k)) (add-one a.i) in
    (c.requires.0, c.requires.1, omega (arith, c.in-Some.ensures, e))
