-- The test of the intertwiners, for every presentation that is posed.
use Rattle.relations.proofs.Relations.{word_read}
use Rattle.check_relations.proofs.fn.intertwiners_hold.holds_everywhere.Goals as goal

pub returns : goal.returns
returns c = λ primes. record {
  is = λ P p. c.all_intertwiners.ensures P (record { gens_are = p.formed.gens_are; word = word_read p.reads });
}
