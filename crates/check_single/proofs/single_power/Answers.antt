-- `single_power` compares a power of the generator with a value, by exponents.
use borrow.Author.Tests.{eqb-true}
use mathlib.Core.Path.{sym, ◌∙◌, ap}
use Prim.Native.Nat.{◌+◌, ◌*◌, ◌%◌}
use native.Mathlib.Omega.{arith}
use Rattle.definitions.specs.Table.{EXP, word_at}
use Rattle.check_single.proofs.single_power.Goals as goal

pub overflow_add-d : goal.overflow_add-d
overflow_add-d c = omega (arith, c.requires.0, c.up.ensures, c.well_formed)

pub word_at-e-requires : goal.word_at-e-requires
word_at-e-requires c = (omega (arith, c.requires.0, c.up.ensures), omega arith)

pub times-requires : goal.times-requires
times-requires c = let a = c.args in
    (omega (arith, c.requires.1, c.word_at-e.ensures, ap (λ k. word_at a.words.now (a.d.line + k) EXP) c.up.ensures), c.requires.3)

pub nonzero_rem-result : goal.nonzero_rem-result
nonzero_rem-result c = omega (arith, c.up-3.ensures, c.requires.2)

pub returns : goal.returns
returns c = λ e.
    let a = c.args in
    let exponent = c.word_at-e.ensures ∙ ap (λ k. word_at a.words.now (a.d.line + k) EXP) c.up.ensures in
    ap (λ x. (a.p * x) % a.m) (sym exponent) ∙ sym c.times.ensures ∙ sym c.up-2.ensures
    ∙ eqb-true c.up-2.result (a.y % c.up-3.result) e ∙ ap (λ m. a.y % m) c.up-3.ensures
