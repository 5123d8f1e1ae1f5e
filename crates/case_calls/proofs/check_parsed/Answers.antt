-- `check_parsed`: the words that are lent are the first of those that the digits give.
use mathlib.Core.Path.{sym}
use native.Mathlib.Omega.{arith}
use lib.Seq.{length-take-le}
use Rattle.definitions.specs.Answers.{Check}
use Rattle.results.specs.Numbers.{answer}
use Rattle.case_calls.proofs.Lent.{part-words}
use Rattle.case_calls.proofs.check_parsed.Goals as goal

pub slice_bounds-check-end : goal.slice_bounds-check-end
slice_bounds-check-end c = sym (length-take-le _ _ (omega arith))

pub returns : goal.returns
returns c = let text = c.args.text.now in
    part-words (λ T. Check text T (answer c.check.result)) c.lent-n.ensures c.parse.ensures c.check.ensures
