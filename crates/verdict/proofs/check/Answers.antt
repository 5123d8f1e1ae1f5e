-- `check`: the answer about the text, then that of the judgement.
use Rattle.results.proofs.Numbers.{answer-ok}
use Rattle.verdict.proofs.Checked.{check-judges}
use Rattle.verdict.proofs.check.Goals as goal

pub returns : goal.returns
returns c = check-judges c.accepted.ensures c.args.words.now (answer-ok c.in_ok-accepted.was) c.check_sound.ensures
