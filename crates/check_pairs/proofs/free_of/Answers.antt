-- `free_of` meets its contract: the columns before c have other references.
use mathlib.Core.Path.{sym, ◌∙◌, ap}
use mathlib.Core.Bool.{not}
use native.Mathlib.Omega.{arith}
use borrow.Author.Tests.{eq-eqb, ne_eqb}
use Rattle.numbers.proofs.Tested.{tested-more, tested-all, tested-fails}
use Rattle.check_pairs.specs.Pairs.{other_ref}
use Rattle.check_pairs.proofs.free_of.Goals as goal

pub returns-then-word_at-x : goal.returns-then-word_at-x
returns-then-word_at-x c = let a = c.args in
    let e = c.up-deg.ensures in
    tested-fails {q = other_ref a.words.now a.e.line a.x} c.loop-c.invariant.2 (omega (arith, e))
    (ap not (eq-eqb _ _ (sym c.if-word_at-x.true ∙ c.word_at.ensures)))

pub loop-c-preserved : goal.loop-c-preserved
loop-c-preserved c = (
  omega arith,
  c.loop-c.invariant.1,
  tested-more c.loop-c.invariant.2 (ap not (ne_eqb _ _ (λ q. c.if-word_at-x.false (c.word_at.ensures ∙ sym q)))),
)

pub returns : goal.returns
returns c = let a = c.args in
    tested-all {q = other_ref a.words.now a.e.line a.x} c.loop-c.invariant.2 (omega (arith, c.up-deg.ensures))
