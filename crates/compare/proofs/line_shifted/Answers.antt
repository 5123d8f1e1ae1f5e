-- `line_shifted` compares the reference, the row and the exponent.
use borrow.Author.Tests.{eqb-true}
use mathlib.Core.Path.{sym, ◌∙◌, ap}
use native.Mathlib.Omega.{arith}
use Rattle.definitions.specs.declared.Entry.{Entry}
use Rattle.compare.proofs.Shifted.{never, line-shifted}
use Rattle.compare.proofs.line_shifted.Goals as goal

pub returns-then-word_at-t : goal.returns-then-word_at-t
returns-then-word_at-t c = never

pub overflow_add-t : goal.overflow_add-t
overflow_add-t c = let from = ap (λ (x : Entry). x.row) c.entry_at-x.ensures in
    omega (arith, c.requires.src_bound.3, from)

pub returns-then-y-t : goal.returns-then-y-t
returns-then-y-t c = never

pub add_mod-requires : goal.add_mod-requires
add_mod-requires c = let from = ap (λ (x : Entry). x.exp) c.entry_at-x.ensures in
    (omega (arith, c.requires.src_bound.0, from), c.requires.src_bound.1, c.requires.src_bound.2)

pub returns : goal.returns
returns c = λ e.
    let a = c.args in
    line-shifted a.m a.words.now a.at a.src a.t c.entry_at-x.result c.entry_at-y.result c.add_mod.result
    (sym c.word_at.ensures ∙ c.if-word_at-t.false) c.entry_at-x.ensures c.entry_at-y.ensures c.if-y-t.false c.add_mod.ensures.0 (eqb-true _ _ e)
