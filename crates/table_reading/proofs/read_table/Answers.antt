-- One answer for each way through.
use mathlib.Core.Path.{sym, ◌∙◌}
use mathlib.Core.Bool.{true≢false}
use Rattle.table_reading.proofs.Calls.{short, long, read_short, read-unstarted, read-unformed, read-room, read_done}
use Rattle.table_reading.proofs.read_table.Goals as goal

pub returns-then-not-enough : goal.returns-then-not-enough
returns-then-not-enough c = read_short _ _ (short c.count_newlines.ensures c.enough.ensures (c.if-not-enough.true))

pub returns-then-not-starts : goal.returns-then-not-starts
returns-then-not-starts c = let room = long c.count_newlines.ensures c.enough.ensures (c.if-not-enough.false) in
    read-unstarted _ _ room (λ h. true≢false (sym (c.starts.ensures.1 h) ∙ c.if-not-starts.true))

pub returns-then-not-in_form : goal.returns-then-not-in_form
returns-then-not-in_form c = let room = long c.count_newlines.ensures c.enough.ensures (c.if-not-enough.false) in
    read-unformed _ _ room (c.in_form.ensures.fails (c.if-not-in_form.true))

pub fill-k-requires : goal.fill-k-requires
fill-k-requires c = let room = long c.count_newlines.ensures c.enough.ensures (c.if-not-enough.false) in
    let formed = c.in_form.ensures.stands (c.if-not-in_form.false) in
    read-room (c.starts.ensures.0 (c.if-not-starts.false)) formed room

pub returns : goal.returns
returns c = let room = long c.count_newlines.ensures c.enough.ensures (c.if-not-enough.false) in
    read_done _ _ room (c.starts.ensures.0 (c.if-not-starts.false)) c.fill-k.ensures
