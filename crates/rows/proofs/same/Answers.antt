-- `same` meets its contract: the forms agree from k up to i, so they agree on level i exactly if they agree on level k.
use mathlib.Core.Path.{◌≡◌, sym, ◌∙◌, ap}
use native.Mathlib.Omega.{arith}
use Rattle.definitions.specs.Presentation.{to_nf}
use Rattle.definitions.specs.Consistency.{same_form}
use Rattle.rows.proofs.Forms.{same_none, same_more, same_differs}
use borrow.Author.Rules.{rules}
use Rattle.rows.proofs.same.Goals as goal

pub returns-then-x-k : goal.returns-then-x-k
returns-then-x-k c = let l = c.loop-k in
    sym (l.invariant ∙ same_differs l.k c.args.x c.args.y (search rules) c.if-x-k.true)

pub loop-k-preserved : goal.loop-k-preserved
loop-k-preserved c = let l = c.loop-k in
    l.invariant ∙ same_more l.k c.args.x c.args.y (search rules) c.if-x-k.false

pub returns : goal.returns
returns c = let e : c.loop-k.k ≡ 0 = omega arith in
    sym (c.loop-k.invariant ∙ ap (λ k. same_form k (to_nf k c.args.x) (to_nf k c.args.y)) e ∙ same_none c.args.x c.args.y)
