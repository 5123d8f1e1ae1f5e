-- `single_takes` looks at one line.
use borrow.Author.Tests.{eqb-true}
use mathlib.Core.Path.{sym, ◌∙◌, ap}
use mathlib.Core.Bool.{false≢true}
use Prim.Native.Nat.{◌+◌}
use native.Mathlib.Omega.{arith}
use Rattle.definitions.specs.Table.{REF, ROW, EXP, word_at}
use Rattle.compare.proofs.Blocks.{inside-matrix}
use Rattle.check_single.proofs.Single as single
use Rattle.check_single.proofs.single_takes.Goals as goal

pub overflow_add-at : goal.overflow_add-at
overflow_add-at c = let (O, one, E, l) = c.requires in
    omega (arith, (single.single-room O one c.args.g l).0, c.up-k.ensures, c.well_formed)

pub word_at-requires : goal.word_at-requires
word_at-requires c = let (O, one, E, l) = c.requires in
    (omega (arith, (single.single-room O one c.args.g l).0, c.up-k.ensures), omega arith)

pub returns-then-word_at-x : goal.returns-then-word_at-x
returns-then-word_at-x c = λ e. absurd (false≢true e)

pub word_at-requires-2 : goal.word_at-requires-2
word_at-requires-2 c = let (O, one, E, l) = c.requires in
    (omega (arith, (single.single-room O one c.args.g l).0, c.up-k.ensures), omega arith)

pub returns-then-word_at-ne0 : goal.returns-then-word_at-ne0
returns-then-word_at-ne0 c = λ e. absurd (false≢true e)

pub word_at-requires-3 : goal.word_at-requires-3
word_at-requires-3 c = let (O, one, E, l) = c.requires in
    (omega (arith, (single.single-room O one c.args.g l).0, c.up-k.ensures), omega arith)

pub returns-then-s-word_at : goal.returns-then-s-word_at
returns-then-s-word_at c = λ e. absurd (false≢true e)

pub word_at-requires-4 : goal.word_at-requires-4
word_at-requires-4 c = let (O, one, E, l) = c.requires in
    (omega (arith, inside-matrix E 0 (omega arith), E.positive), omega arith)

pub overflow_add-f : goal.overflow_add-f
overflow_add-f c = let (O, one, E, l) = c.requires in
    omega (arith, (single.single-room O one c.args.g l).1, c.up-k.ensures, c.well_formed)

pub word_at-requires-5 : goal.word_at-requires-5
word_at-requires-5 c = let (O, one, E, l) = c.requires in
    (omega (arith, (single.single-room O one c.args.g l).1, c.up-k.ensures), omega arith)

pub returns : goal.returns
returns c = λ e.
    let a = c.args in
    let T = a.words.now in
    let (O, one, E, l) = c.requires in
    let k = c.up-k.ensures in
    single.single-takes O one a.e a.g a.x l
    (sym (c.word_at.ensures ∙ ap (λ k. word_at T (a.d.line + k) REF) k) ∙ c.if-word_at-x.false)
    (sym (c.word_at-2.ensures ∙ ap (λ k. word_at T (a.d.line + k) ROW) k) ∙ c.if-word_at-ne0.false)
    (omega (arith, c.if-s-word_at.false, c.word_at-3.ensures ∙ ap (λ k. word_at T (a.d.line + k) EXP) k))
    (sym c.word_at-4.ensures ∙ eqb-true c.word_at-4.result c.word_at-5.result e
    ∙ c.word_at-5.ensures ∙ ap (λ k. word_at T (a.f.line + k) REF) k)
