-- `lines_value` compares line by line, and sums the exponents.
use mathlib.Core.Path.{◌∙◌, ap, ap₂, subst}
use Prim.Native.Nat.{◌+◌, ◌*◌}
use native.Mathlib.Omega.{arith}
use lib.ListN.{get_or}
use Rattle.definitions.specs.Table.{EXP, word_at}
use Rattle.compare.specs.Shifted.{LineSame}
use Rattle.check_single.proofs.Power.{summed-none, summed-more, summed-all, product_small}
use Rattle.check_single.proofs.lines_value.Goals as goal

pub loop-k-init : goal.loop-k-init
loop-k-init c = (summed-none, omega arith)

pub offset_bounds-u-c : goal.offset_bounds-u-c
offset_bounds-u-c c = omega (arith, c.requires.2, c.up-c.ensures)

pub bounds-u-c : goal.bounds-u-c
bounds-u-c c = omega (arith, c.requires.2, c.up-c.ensures)

pub overflow_add-at : goal.overflow_add-at
overflow_add-at c = omega (arith, c.requires.0, c.up-c.ensures, c.well_formed)

pub overflow_add-src : goal.overflow_add-src
overflow_add-src c = omega (arith, c.requires.1, c.up-c.ensures, c.well_formed)

pub line_same-requires : goal.line_same-requires
line_same-requires c = (omega (arith, c.requires.0, c.up-c.ensures), omega (arith, c.requires.1, c.up-c.ensures))

pub overflow_add-at-in-loop-k : goal.overflow_add-at-in-loop-k
overflow_add-at-in-loop-k c = omega (arith, c.requires.0, c.up-c.ensures, c.well_formed)

pub word_at-requires : goal.word_at-requires
word_at-requires c = (omega (arith, c.requires.0, c.up-c.ensures), omega arith)

pub overflow_mul-y : goal.overflow_mul-y
overflow_mul-y c =
    let q = product_small {a = c.up.result} {b = c.up-in-loop-k.result} (omega (arith, c.up.ensures, c.if-a-gt-SMALL.false))
    (omega (arith, c.up-in-loop-k.ensures)) in
    omega (arith, q)

pub overflow_add-y : goal.overflow_add-y
overflow_add-y c =
    let q = product_small {a = c.up.result} {b = c.up-in-loop-k.result} (omega (arith, c.up.ensures, c.if-a-gt-SMALL.false))
    (omega (arith, c.up-in-loop-k.ensures)) in
    omega (arith, q, c.loop-k.invariant.0.small, c.loop-k.invariant.1, c.requires.2)

pub loop-k-preserved : goal.loop-k-preserved
loop-k-preserved c = let a = c.args in
    let l = c.loop-k in
    let T = a.words.now in
    let line = c.line_same.ensures (c.if-not-line_same.false) in
    let here = subst (λ k. LineSame T (a.at + k) (a.src + k) a.x) c.up-c.ensures line in
    let e = ap₂ (λ a b. a * b) (c.up.ensures ∙ ap (λ k. get_or a.u.now k 0) c.up-c.ensures)
    (c.up-in-loop-k.ensures ∙ c.word_at.ensures ∙ ap (λ k. word_at T (a.at + k) EXP) c.up-c.ensures) in
    let q = product_small {a = c.up.result} {b = c.up-in-loop-k.result} (omega (arith, c.up.ensures, c.if-a-gt-SMALL.false))
    (omega (arith, c.up-in-loop-k.ensures)) in
    (summed-more l.invariant.0 here e q, omega arith)

pub returns : goal.returns
returns c =
    let l = c.loop-k in
    summed-all l.invariant.0 (omega (arith, l.invariant.1))
