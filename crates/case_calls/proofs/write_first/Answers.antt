-- `write_first`: as many are lent as there are, at most, and the others are kept.
use mathlib.Core.Path.{sym, ◌∙◌}
use native.Mathlib.Omega.{arith}
use lib.Seq.{length-take-le}
use Rattle.definitions.specs.Answers.{WriteTable}
use Rattle.case_calls.proofs.Lent.{lent-first}
use Rattle.case_calls.proofs.write_first.Goals as goal

pub slice_bounds-write_table-end-2 : goal.slice_bounds-write_table-end-2
slice_bounds-write_table-end-2 c = sym (length-take-le _ _ (omega arith))

pub returns : goal.returns
returns c = let call = c.write_table in
    let part = c.lent-n.ensures in
    lent-first (WriteTable c.args.words.now) part (call.auto.out ∙ length-take-le _ _ part.within) call.ensures
