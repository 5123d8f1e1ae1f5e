-- `closing` walks the power word and the orbit at column 0.
use Rattle.survey.proofs.Counting.{closing-walked, closing-empty}
use Rattle.survey.proofs.closing.Goals as goal

pub returns-then-n-eq0 : goal.returns-then-n-eq0
returns-then-n-eq0 c = let e = c.sub_mod.ensures in
    (closing-empty _ _ _ _ _ c.requires.3 c.if-n-eq0.true c.around-a.ensures.0 e.0, e.1)

pub returns : goal.returns
returns c = let e = c.sub_mod-2.ensures in
    (closing-walked _ _ _ _ _ c.requires.3 c.listed-d.ensures c.walked-b.ensures.0 c.around-a.ensures.0 e.0, e.1)
