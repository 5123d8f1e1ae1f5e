-- `lower_fits` compares line by line where the degree is 1, else generator by generator.
use mathlib.Core.Path.{sym, ap₂, subst}
use Prim.Native.Nat.{◌+◌, ◌<◌}
use native.Mathlib.Omega.{arith}
use Rattle.level.specs.Stored.{line_in, Holds}
use Rattle.compare.specs.Shifted.{shift, Shifted}
use Rattle.compare.proofs.Shifted.{never}
use Rattle.compare.proofs.Blocks.{inside-matrix, block-lines, block-shift, lowering-none, lowering-more, lowering-all, single-lines}
use Rattle.compare.proofs.Blocks.{lower-single}
use Rattle.compare.proofs.lower_fits.Goals as goal

pub lines_same-requires : goal.lines_same-requires
lines_same-requires c = single-lines c.requires.0 c.if-d-eq1.true c.requires.1

pub returns-then-d-eq1 : goal.returns-then-d-eq1
returns-then-d-eq1 c = λ e.
    lower-single c.requires.0 c.if-d-eq1.true c.requires.1 (c.lines_same.ensures e)

pub loop-g-init : goal.loop-g-init
loop-g-init c = lowering-none

pub matrix_line-requires : goal.matrix_line-requires
matrix_line-requires c = omega (arith, inside-matrix c.requires.0.inside c.loop-g.g (omega (arith, c.requires.1)), c.well_formed)

pub overflow_add-at : goal.overflow_add-at
overflow_add-at c = omega (arith, block-lines c.requires.0 c.loop-g.g (omega (arith, c.requires.1)), c.matrix_line.ensures, c.up.ensures, c.well_formed)

pub matrix_line-requires-in-loop-g : goal.matrix_line-requires-in-loop-g
matrix_line-requires-in-loop-g c = omega (arith, (c.requires.0.stored.holds c.loop-g.g (omega (arith, c.requires.1))).fits, c.well_formed)

pub lines_shifted-requires : goal.lines_shifted-requires
lines_shifted-requires c = let a = c.args in
    let O = c.requires.0 in
    let l : c.loop-g.g < a.s.gens = omega (arith, c.requires.1) in (
      omega (arith, block-lines O c.loop-g.g l, c.matrix_line.ensures, c.up.ensures),
      subst (λ l. Holds a.s.m a.words.now l a.b.part.deg) (sym c.matrix_line-in-loop-g.ensures) (O.stored.holds c.loop-g.g l),
      O.modulus,
      block-shift O a.b.start (omega (arith, O.within, O.stored.positive)),
    )

pub returns-then-not-lines_shifted : goal.returns-then-not-lines_shifted
returns-then-not-lines_shifted c = never

pub loop-g-preserved : goal.loop-g-preserved
loop-g-preserved c = let a = c.args in
    let H = c.lines_shifted.ensures (c.if-not-lines_shifted.false) in
    lowering-more c.loop-g.invariant (
    subst (λ l. Shifted a.s.m a.words.now (line_in a.d c.loop-g.g + a.b.start) l a.b.part.deg
    (shift a.b.refn a.b.start 0)) c.matrix_line-in-loop-g.ensures (
    subst (λ l. Shifted a.s.m a.words.now l c.matrix_line-in-loop-g.result a.b.part.deg (shift a.b.refn a.b.start 0))
    (ap₂ ◌+◌ c.matrix_line.ensures c.up.ensures) H))

pub returns : goal.returns
returns c = λ e.
    lowering-all c.loop-g.invariant (omega arith)
