-- `generator_fits` reads off the first column where the block goes and with which scalar, and compares the others.
use mathlib.Core.Path.{◌≡◌, sym, ◌∙◌, ap, ap₂, subst}
use Prim.Native.Nat.{◌+◌, ◌<◌}
use native.Mathlib.Nat.{div-mul-le_self}
use native.Mathlib.Omega.{arith}
use Rattle.definitions.specs.Table.{EXP, word_at}
use Rattle.level.specs.Stored.{line_in, Holds}
use Rattle.compare.proofs.Shifted.{never}
use Rattle.compare.proofs.Blocks.{inside-matrix, inside-column, block-lines, block-shift, carried}
use Rattle.compare.proofs.generator_fits.Goals as goal

pub matrix_line-requires : goal.matrix_line-requires
matrix_line-requires c = omega (arith, inside-matrix c.requires.0.inside c.args.g c.requires.3, c.well_formed)

pub overflow_add-at : goal.overflow_add-at
overflow_add-at c = omega (arith, block-lines c.requires.0 c.args.g c.requires.3, c.matrix_line.ensures, c.up.ensures, c.well_formed)

pub matrix_line-src-requires : goal.matrix_line-src-requires
matrix_line-src-requires c = omega (arith, (c.requires.0.stored.holds c.args.g c.requires.3).fits, c.well_formed)

pub entry_at-y-requires : goal.entry_at-y-requires
entry_at-y-requires c = omega (arith, block-lines c.requires.0 c.args.g c.requires.3, c.requires.0.stored.positive, c.matrix_line.ensures, c.up.ensures)

pub returns-then-d-y : goal.returns-then-d-y
returns-then-d-y c = never

pub returns-then-s-y : goal.returns-then-s-y
returns-then-s-y c = never

pub block_row-row-requires : goal.block_row-row-requires
block_row-row-requires c = (c.requires.0.stored.positive, omega (arith, c.if-d-y.false))

pub overflow_add-e : goal.overflow_add-e
overflow_add-e c = let a = c.args in
    let y = c.entry_at-y.result in
    let b = div-mul-le_self y.row a.b.part.deg in
    let r : c.block_row-row.result < a.e.deg = omega (arith, b, c.block_row-row.ensures, c.if-d-y.false, c.requires.2) in
    omega (arith, inside-column c.requires.1 c.block_row-row.result (omega (arith, c.requires.3)) r, c.up-2.ensures, c.well_formed)

pub word_at-requires : goal.word_at-requires
word_at-requires c = let a = c.args in
    let y = c.entry_at-y.result in
    let b = div-mul-le_self y.row a.b.part.deg in
    let r : c.block_row-row.result < a.e.deg = omega (arith, b, c.block_row-row.ensures, c.if-d-y.false, c.requires.2) in
    (omega (arith, inside-column c.requires.1 c.block_row-row.result (omega (arith, c.requires.3)) r, c.up-2.ensures), omega arith)

pub word_at-requires-2 : goal.word_at-requires-2
word_at-requires-2 c = let O = c.requires.0 in
    (omega (arith, (O.stored.holds c.args.g c.requires.3).fits, O.stored.positive, c.matrix_line-src.ensures), omega arith)

pub returns-then-word_at : goal.returns-then-word_at
returns-then-word_at c = never

pub word_at-requires-3 : goal.word_at-requires-3
word_at-requires-3 c = let O = c.requires.0 in
    (omega (arith, (O.stored.holds c.args.g c.requires.3).fits, O.stored.positive, c.matrix_line-src.ensures), omega arith)

pub sub_mod-exp-requires : goal.sub_mod-exp-requires
sub_mod-exp-requires c = let a = c.args in
    let O = c.requires.0 in
    let H = O.stored.holds a.g c.requires.3 in
    let line : line_in a.b.part a.g + 0 ≡ c.matrix_line-src.result = omega (arith, c.matrix_line-src.ensures) in
    let e = subst (λ l. word_at a.words.now l EXP < a.s.m) line (H.valid 0 O.stored.positive).exp in
    (omega (arith, c.if-s-y.false), omega (arith, c.word_at-3.ensures, e), H.small)

pub lines_shifted-requires : goal.lines_shifted-requires
lines_shifted-requires c = let a = c.args in
    let O = c.requires.0 in
    let y = c.entry_at-y.result in
    let b = div-mul-le_self y.row a.b.part.deg in (
      omega (arith, block-lines O a.g c.requires.3, c.matrix_line.ensures, c.up.ensures),
      subst (λ l. Holds a.s.m a.words.now l a.b.part.deg) (sym c.matrix_line-src.ensures) (O.stored.holds a.g c.requires.3),
      c.sub_mod-exp.ensures.1,
      block-shift O c.block_row-row.result (omega (arith, b, c.block_row-row.ensures, c.if-d-y.false)),
    )

pub returns : goal.returns
returns c = λ e.
    let a = c.args in
    carried a.s a.words.now a.d a.e a.b a.g a.x (c.matrix_line.result + c.up.result) c.matrix_line-src.result
    c.block_row-row.result
    c.entry_at-y.result (ap₂ ◌+◌ c.matrix_line.ensures c.up.ensures) c.matrix_line-src.ensures c.entry_at-y.ensures c.block_row-row.ensures
    (a.e.line + c.up-2.result) c.sub_mod-exp.result c.word_at-3.result (omega (arith, c.if-d-y.false)) (ap (λ r. a.e.line + r) c.up-2.ensures)
    (sym c.word_at.ensures ∙ c.if-word_at.false ∙ c.word_at-2.ensures) c.word_at-3.ensures c.sub_mod-exp.ensures.0 (c.lines_shifted.ensures e)
