-- The test of all relations, for every presentation that is posed.
use Rattle.relations.proofs.Intertwiners.{among-kept}
use Rattle.check_relations.proofs.fn.relations_hold.holds_everywhere.Goals as goal

pub all_relations-requires : goal.all_relations-requires
all_relations-requires c = let A = c.requires in (among-kept A, A.found.level.1)

pub returns : goal.returns
returns c = record { is = λ P p. c.all_relations.ensures P p.reads }
