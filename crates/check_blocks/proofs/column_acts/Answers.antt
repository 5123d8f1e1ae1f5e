-- `column_acts` compares two columns, by rows and by exponents.
use mathlib.Core.Path.{sym, ◌∙◌, ap, subst}
use Prim.Native.Nat.{◌+◌}
use native.Mathlib.Omega.{arith}
use Rattle.level.specs.Stored.{entry_in, Holds}
use Rattle.check_blocks.proofs.Blocks.{acts-is}
use Rattle.check_blocks.proofs.column_acts.Goals as goal

pub column-x-requires : goal.column-x-requires
column-x-requires c = let a = c.args in
    let H = c.requires.0.whole.holds a.k c.requires.1 in
    (subst (λ l. Holds a.s.m a.words.now l a.d.deg) (sym c.matrix_line.ensures) H, omega (arith, c.requires.0.room, c.requires.2))

pub column-y-requires : goal.column-y-requires
column-y-requires c = let a = c.args in
    let H = c.requires.0.block.holds a.k c.requires.1 in
    (subst (λ l. Holds a.s.m a.words.now l a.f.deg) (sym c.matrix_line-2.ensures) H, c.requires.2)

pub returns : goal.returns
returns c = let a = c.args in
    c.eq.ensures
    ∙ sym (acts-is a.words.now a.d a.o a.f a.k a.c c.column-x.result c.column-y.result
    (c.column-x.ensures.0 ∙ ap (λ l. entry_in a.words.now (l + (a.o + a.c))) c.matrix_line.ensures)
    (c.column-y.ensures.0 ∙ ap (λ l. entry_in a.words.now (l + a.c)) c.matrix_line-2.ensures))
