-- `commutative`: the answer about the text, then the yes or no of the scan.
use Rattle.results.proofs.Numbers.{answer-ok}
use Rattle.commutativity.proofs.Ones.{commutative-told}
use Rattle.commutativity.proofs.commutative.Goals as goal

pub returns : goal.returns
returns c = commutative-told c.accepted.ensures (answer-ok c.in_ok-accepted.was) c.words_empty.ensures
