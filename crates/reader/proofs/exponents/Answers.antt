-- The exponents are read one by one: `Going` is what has been read.
use mathlib.Core.Path.{sym, subst, ◌∙◌}
use native.Mathlib.Omega.{arith}
use Rattle.reader.specs.Lines.{WordAt}
use Rattle.reader.proofs.Words.{going-none, going_more, going-past, going-fails, going-stops, going-as}
use Rattle.reader.proofs.exponents.Goals as goal
use Rattle.reader.proofs.exponents.Goals.{then-k-lt-GENERATORS, else-k-lt-GENERATORS}

pub loop-k-init : goal.loop-k-init
loop-k-init c = going-none c.requires.0 c.requires.1

pub returns-in_err-e : goal.returns-in_err-e
returns-in_err-e c = let a = c.args in
    subst (WordAt a.text.now a.at a.n) (sym c.from_residual.ensures) (going-fails c.loop-k.invariant (omega arith) (c.value_behind.ensures.fails c.in_err-e.was))

pub loop-k-preserved : goal.loop-k-preserved
loop-k-preserved c = let h = c.loop-k.invariant in
    let v = c.value_behind.ensures.stands _ _ c.in_ok-e.was in
    elim c.if-k-lt-GENERATORS.branch [
      | then-k-lt-GENERATORS w ↦ going-as w.kept-is (going_more h (omega arith) (omega (arith, w.if-k-lt-GENERATORS.true)) v)
      | else-k-lt-GENERATORS w ↦ going-as w.kept-is (going-past h (omega arith) (omega (arith, w.if-k-lt-GENERATORS.false)) v)
    ]

pub returns-then-byte_at-ne10 : goal.returns-then-byte_at-ne10
returns-then-byte_at-ne10 c = going-stops c.loop-k.invariant (omega arith) (λ q. c.if-byte_at-ne10.true (c.byte_at.ensures ∙ q))
