-- `block_fits` finds what the block refers to, and goes through all generators.
use mathlib.Core.Path.{◌≡◌, refl, ◌∙◌, ap}
use Prim.Native.Nat.{◌+◌}
use native.Mathlib.Omega.{arith}
use Rattle.definitions.specs.Table.{REF, word_at}
use Rattle.compare.specs.Blocks.{ref_at}
use Rattle.compare.proofs.Shifted.{never}
use Rattle.compare.proofs.Staged.{low-at, low-place}
use Rattle.compare.proofs.Blocks.{inside-column, over, fitting-block}
use Rattle.compare.proofs.block_fits.Goals as goal

pub overflow_add-d : goal.overflow_add-d
overflow_add-d c = let l = inside-column c.requires.1 c.args.o c.requires.0.whole.some (omega (arith, c.requires.2, c.requires.3)) in
    omega (arith, l, c.up.ensures, c.well_formed)

pub word_at-x-requires : goal.word_at-x-requires
word_at-x-requires c = let l = inside-column c.requires.1 c.args.o c.requires.0.whole.some (omega (arith, c.requires.2, c.requires.3)) in
    (omega (arith, l, c.up.ensures), omega arith)

pub returns-then-g-r : goal.returns-then-g-r
returns-then-g-r c = never

pub overflow_add-g : goal.overflow_add-g
overflow_add-g c = omega (arith, low-place c.requires.0 c.up-r.result (omega (arith, c.if-g-r.false)), c.well_formed)

pub rep_at-part-requires : goal.rep_at-part-requires
rep_at-part-requires c = low-place c.requires.0 c.up-r.result (omega (arith, c.if-g-r.false))

pub returns-then-part-w : goal.returns-then-part-w
returns-then-part-w c = never

pub lower_fits-requires : goal.lower_fits-requires
lower_fits-requires c = let S = c.requires.0 in
    let F = low-at S c.up-r.result (omega (arith, c.if-g-r.false)) c.rep_at-part.ensures c.up-r.ensures in
    (over S c.requires.1 c.args.o F (omega (arith, c.requires.3, c.if-part-w.false)), omega (arith, S.level.1))

pub returns-then-not-lower_fits : goal.returns-then-not-lower_fits
returns-then-not-lower_fits c = never

pub generator_fits-requires : goal.generator_fits-requires
generator_fits-requires c = let S = c.requires.0 in
    let F = low-at S c.up-r.result (omega (arith, c.if-g-r.false)) c.rep_at-part.ensures c.up-r.ensures in
    (over S c.requires.1 c.args.o F (omega (arith, c.requires.3, c.if-part-w.false)), c.requires.1, refl, S.level.1)

pub returns-then-not-generator_fits : goal.returns-then-not-generator_fits
returns-then-not-generator_fits c = never

pub upper_fits-requires : goal.upper_fits-requires
upper_fits-requires c = let S = c.requires.0 in
    let F = low-at S c.up-r.result (omega (arith, c.if-g-r.false)) c.rep_at-part.ensures c.up-r.ensures in
    (S, over S c.requires.1 c.args.o F (omega (arith, c.requires.3, c.if-part-w.false)))

pub returns : goal.returns
returns c = λ e.
    let a = c.args in
    let x : c.word_at-x.result ≡ ref_at a.s a.words.now a.g a.d a.o
    = c.word_at-x.ensures ∙ ap (λ k. word_at a.words.now (a.d.line + k) REF) c.up.ensures in
    fitting-block x (low-at c.requires.0 c.up-r.result (omega (arith, c.if-g-r.false)) c.rep_at-part.ensures c.up-r.ensures) c.if-part-w.false
    (c.lower_fits.ensures (c.if-not-lower_fits.false))
    (c.generator_fits.ensures (c.if-not-generator_fits.false)) (c.upper_fits.ensures e)
