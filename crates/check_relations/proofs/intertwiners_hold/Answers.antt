-- `intertwiners_hold` lends the test of the intertwiners.
use Rattle.definitions.specs.Judgement.{intertwiners_hold}
use Rattle.check_relations.proofs.intertwiners_hold.Goals as goal

pub returns : goal.returns
returns c = c.holds_everywhere.ensures intertwiners_hold c.args.rows.now c.args.primes.now (record { each = λ i D r A h. h.1 c.args.primes.now })
