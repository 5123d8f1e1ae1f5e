-- `judge_files` meets its contract: too many bytes are refused, each file in its turn, and others are texts.
use mathlib.Core.Path.{subst}
use native.Mathlib.Omega.{arith}
use Rattle.definitions.specs.Answers.{Accept}
use Rattle.results.proofs.Numbers.{answer-ok}
use Rattle.repcheck.proofs.Calls.{group-long, table-long, table-short}
use Rattle.repcheck.proofs.judge_files.Goals as goal

pub returns-then-group-gt-GROUP : goal.returns-then-group-gt-GROUP
returns-then-group-gt-GROUP c = group-long c.args.group.now c.args.table.now c.if-group-gt-GROUP.true

pub returns-then-table-gt-TABLE : goal.returns-then-table-gt-TABLE
returns-then-table-gt-TABLE c = table-long c.args.group.now c.args.table.now (omega arith) (answer-ok c.in_ok-accept.was) c.accept.ensures
    c.if-table-gt-TABLE.true

pub judge_table-requires : goal.judge_table-requires
judge_table-requires c = subst (Accept c.args.group.now) (answer-ok c.in_ok-accept.was) c.accept.ensures

pub returns : goal.returns
returns c = table-short c.args.group.now c.args.table.now (omega arith) (answer-ok c.in_ok-accept.was) c.accept.ensures (omega arith) c.judge_table.ensures
