-- `mix_words`: after i numbers, the sum over them.
use mathlib.Core.Path.{◌≡◌, refl, sym, ap, ◌∙◌}
use native.Mathlib.Omega.{arith}
use lib.ListN.{length}
use borrow.Author.Rules.{rules}
use Rattle.case_input.specs.Mixed.{mixed_to}
use Rattle.case_input.proofs.Mixed.{mixed-none, mixed-more}
use Rattle.case_input.proofs.mix_words.Goals as goal

pub loop-w-init : goal.loop-w-init
loop-w-init c = (sym (mixed-none _), search rules)

pub loop-w-preserved : goal.loop-w-preserved
loop-w-preserved c = let l = c.loop-w in
    (mixed-more c.args.words.now l.w-index l.sum _ _ l.invariant.0 refl c.mix-sum.ensures, search rules)

pub returns : goal.returns
returns c = let l = c.loop-w in
    let all : l.w-index ≡ length c.args.words.now = omega (arith, l.invariant.1) in
    l.invariant.0 ∙ ap (mixed_to c.args.words.now) all
