-- The library tests the words.
use Rattle.std.proofs.Common.{rules, ◌↔◌, ◌≤◌, IsTrue, EachIndex, slice_index}
use Rattle.table_writing.proofs.Writes.{small_is}
use Rattle.table_writing.proofs.all_small.Goals as goal

pub returns : goal.returns
returns c =
    let T = c.args.words.now in
    let each : IsTrue c.all.result ↔ EachIndex T (λ k. slice_index T k ≤ 999999999) = search rules in
    small_is T each
