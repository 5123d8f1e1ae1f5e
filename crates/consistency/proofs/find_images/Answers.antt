-- `find_images` meets its contract: the first k rows are images, and in the end all below i.
use borrow.Author.Rules.{rules}
use mathlib.Core.Path.{◌≡◌, ◌∙◌, subst}
use native.Mathlib.Omega.{arith}
use lib.ListN.{length-set}
use Rattle.consistency.specs.Images.{Images}
use Rattle.consistency.proofs.Values.{images-none, images-more}
use Rattle.consistency.proofs.find_images.Goals as goal

pub loop-k-init : goal.loop-k-init
loop-k-init c = (search rules, images-none)

pub loop-k-preserved : goal.loop-k-preserved
loop-k-preserved c = let l = c.loop-k in
    (length-set l.images l.k c.conjugate.result ∙ l.invariant.0, images-more (search rules) l.invariant.1 c.generator.ensures c.conjugate.ensures)

pub returns : goal.returns
returns c = let l = c.loop-k in
    let a = c.args in
    let e : l.k ≡ a.i = omega arith in
    (subst (Images a.i a.collector.now.primes.now a.collector.now.rows.now l.images) e l.invariant.1, l.invariant.0)
