-- `matrix_ok` meets its contract: the entry where the degree is 1, by marks where it is small, and else the entries, then the rows.
use mathlib.Core.Path.{sym, ◌∙◌}
use Rattle.check_lines.proofs.Lines.{matrix-apart, matrix-rows}
use Rattle.check_lines.proofs.Rows.{single-matrix}
use Rattle.check_lines.proofs.matrix_ok.Goals as goal

pub returns-then-d-eq1 : goal.returns-then-d-eq1
returns-then-d-eq1 c = let a = c.args in
    c.entry_ok.ensures ∙ single-matrix a.words.now a.at a.m a.d c.if-d-eq1.true

pub returns-then-not-entries_ok : goal.returns-then-not-entries_ok
returns-then-not-entries_ok c = let a = c.args in
    matrix-apart a.m a.words.now a.at a.d (sym c.entries_ok.ensures ∙ c.if-not-entries_ok.true)

pub returns : goal.returns
returns c = let a = c.args in
    let ok = sym c.entries_ok.ensures ∙ c.if-not-entries_ok.false in
    c.rows_found.ensures ∙ matrix-rows a.m a.words.now a.at a.d ok
