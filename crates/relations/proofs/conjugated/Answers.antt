-- `conjugated` moves a column through the word, then through the generator.
use native.Mathlib.Omega.{arith}
use Rattle.relations.proofs.Kept.{kept-stored, kept-column, conjugate-moved}
use Rattle.relations.proofs.conjugated.Goals as goal

pub walked-y-requires : goal.walked-y-requires
walked-y-requires c = let (K, l, h) = c.requires in
    let e = c.up.ensures in
    (omega (arith, K.few), kept-stored K _ (omega arith), kept-column K _ h)

pub returns : goal.returns
returns c = let a = c.args in
    let w = c.walked-y in
    record {
      below = c.moved.ensures.1;
      is = λ P j. conjugate-moved a.s.m a.words.now a.d P a.k j _ a.c a.w.now w.result c.moved.result
          (omega (arith, c.up.ensures)) w.ensures.0 c.moved.ensures.0;
    }
