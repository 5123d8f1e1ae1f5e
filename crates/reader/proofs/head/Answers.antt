-- The three values are read one behind the other.
use mathlib.Core.Path.{sym, subst, ◌∙◌}
use native.Mathlib.Numerals.{add-one}
use native.Mathlib.Omega.{arith}
use Rattle.definitions.specs.Text.{largest}
use Rattle.reader.specs.Lines.{HeadAt}
use Rattle.reader.proofs.Heads.{head-none, head-other, head_none_2, head-other-2, head-some}
use Rattle.reader.proofs.head.Goals as goal

pub returns-in_err-a : goal.returns-in_err-a
returns-in_err-a c = let a = c.args in
    subst (HeadAt a.text.now a.at a.j a.i) (sym c.from_residual.ensures) (head-none _ _ (c.value.ensures.fails c.in_err-a.was) c.requires.0)

pub overflow_add-j : goal.overflow_add-j
unfolding largest
overflow_add-j c = omega arith

pub returns-then-a-j : goal.returns-then-a-j
returns-then-a-j c = head-other _ _ (c.value.ensures.stands _ _ c.in_ok-a.was) (λ q. c.if-a-j.true (q ∙ sym (add-one _)))

pub returns-in_err-b : goal.returns-in_err-b
returns-in_err-b c = let a = c.args in
    subst (HeadAt a.text.now a.at a.j a.i) (sym c.from_residual-in_err-b.ensures)
    (head_none_2 _ _ (c.value.ensures.stands _ _ c.in_ok-a.was) (c.value_behind.ensures.fails c.in_err-b.was) (omega (arith, c.requires)))

pub returns-then-b-i : goal.returns-then-b-i
returns-then-b-i c = head-other-2 _ _ (c.value.ensures.stands _ _ c.in_ok-a.was) (c.value_behind.ensures.stands _ _ c.in_ok-b.was)
    (λ q. c.if-b-i.true (q ∙ sym (add-one _)))

pub returns : goal.returns
returns c = head-some _ _ (c.value.ensures.stands _ _ c.in_ok-a.was) (c.value_behind.ensures.stands _ _ c.in_ok-b.was)
    (omega arith) (omega arith) c.value_behind-2.ensures
