-- One answer for each way through.
use mathlib.Core.Path.{sym, ◌∙◌}
use native.Mathlib.Omega.{arith}
use Rattle.text.proofs.Writing.{wrote-length}
use Rattle.table_writing.proofs.Calls.{write-room, write-part, write-large, write-short, write_done}
use Rattle.table_writing.proofs.write_table.Goals as goal

pub returns-then-words-ne0 : goal.returns-then-words-ne0
returns-then-words-ne0 c = write-part _ _ c.if-words-ne0.true

pub returns-then-not-all_small : goal.returns-then-not-all_small
returns-then-not-all_small c = write-large _ _ (sym c.all_small.ensures ∙ c.if-not-all_small.true)

pub returns-then-not-fits : goal.returns-then-not-fits
returns-then-not-fits c = let few = sym c.all_small.ensures ∙ c.if-not-all_small.false in
    write-short _ _ c.if-words-ne0.false few (sym c.fits.ensures ∙ c.if-not-fits.true)

pub put_bytes-at-requires : goal.put_bytes-at-requires
put_bytes-at-requires c = let a = c.args in
    omega (arith, write-room a.words.now a.out.now c.fits.ensures (c.if-not-fits.false))

pub put_words-end-requires : goal.put_words-end-requires
put_words-end-requires c = let p = c.put_bytes-at.ensures in
    let a = c.args in
    omega (arith, p.end, wrote-length p, write-room a.words.now a.out.now c.fits.ensures (c.if-not-fits.false))

pub returns : goal.returns
returns c = let few = sym c.all_small.ensures ∙ c.if-not-all_small.false in
    write_done _ _ c.if-words-ne0.false few c.put_bytes-at.ensures c.put_words-end.ensures
