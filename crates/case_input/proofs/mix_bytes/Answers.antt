-- `mix_bytes`: after i numbers, the sum over them.
use mathlib.Core.Path.{◌≡◌, sym, ap, ◌∙◌}
use native.Mathlib.Omega.{arith}
use lib.ListN.{length, get_or}
use borrow.Author.Rules.{rules}
use Rattle.case_input.specs.Mixed.{mixed_to}
use Rattle.case_input.proofs.Mixed.{mixed-none, mixed-more}
use Rattle.case_input.proofs.mix_bytes.Goals as goal

pub loop-b-init : goal.loop-b-init
loop-b-init c = (sym (mixed-none _), search rules)

pub loop-b-preserved : goal.loop-b-preserved
loop-b-preserved c = let l = c.loop-b in
    (mixed-more c.args.bytes.now l.b-index l.sum _ _ l.invariant.0 c.from.ensures c.mix-sum.ensures, search rules)

pub returns : goal.returns
returns c = let l = c.loop-b in
    let all : l.b-index ≡ length c.args.bytes.now = omega (arith, l.invariant.1) in
    l.invariant.0 ∙ ap (mixed_to c.args.bytes.now) all
