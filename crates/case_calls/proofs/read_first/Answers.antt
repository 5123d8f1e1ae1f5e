-- `read_first`: as many are lent as there are, at most, and the others are kept.
use mathlib.Core.Path.{sym, ◌∙◌}
use native.Mathlib.Omega.{arith}
use lib.Seq.{length-take-le}
use Rattle.definitions.specs.Answers.{ReadTable}
use Rattle.case_calls.proofs.Lent.{lent-first}
use Rattle.case_calls.proofs.read_first.Goals as goal

pub slice_bounds-read_table-end-2 : goal.slice_bounds-read_table-end-2
slice_bounds-read_table-end-2 c = sym (length-take-le _ _ (omega arith))

pub returns : goal.returns
returns c = let call = c.read_table in
    let part = c.lent-n.ensures in
    lent-first (ReadTable c.args.text.now) part (call.auto.words ∙ length-take-le _ _ part.within) call.ensures
