-- `is_inner_on` meets its contract: the generator is central, or the equation is tested.
use mathlib.Core.Path.{sym, subst}
use native.Mathlib.Omega.{arith}
use borrow.Author.Tests.{lt-ltb}
use Rattle.consistency.specs.Answers.{inner_at}
use Rattle.consistency.specs.Level.{Answers}
use Rattle.consistency.proofs.Answers.{inner-central}
use Rattle.consistency.proofs.Level.is_inner_on.Goals as goal

pub returns-then-self-k : goal.returns-then-self-k
returns-then-self-k c = let s = c.args.self.now in
    let k = c.args.k in
    subst (Answers s (λ P i. inner_at P i k)) (sym (lt-ltb _ _ c.if-self-k.true))
    (inner-central c.requires ((s.central.at k (omega (arith, c.requires))).at s.i c.if-self-k.true))
