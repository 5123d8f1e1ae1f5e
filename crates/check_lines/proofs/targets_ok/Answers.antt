-- `targets_ok` meets its contract: generator after generator above the level.
use mathlib.Core.Path.{sym, ◌∙◌}
use native.Mathlib.Omega.{arith}
use Rattle.numbers.proofs.Tested.{tested-more, tested-all, tested-fails}
use Rattle.check_lines.specs.Lines.{target_ok}
use Rattle.check_lines.proofs.Lines.{above-is}
use Rattle.check_lines.proofs.targets_ok.Goals as goal

pub returns-then-not-target_ok : goal.returns-then-not-target_ok
returns-then-not-target_ok c = let loop = c.loop-j in
    let e = above-is (target_ok c.args.words.now c.args.d c.args.many) c.args.i loop.j loop.invariant.0 in
    tested-fails loop.invariant.1 (omega arith) (e ∙ sym c.target_ok.ensures ∙ c.if-not-target_ok.true)

pub loop-j-preserved : goal.loop-j-preserved
loop-j-preserved c = let loop = c.loop-j in
    let e = above-is (target_ok c.args.words.now c.args.d c.args.many) c.args.i loop.j loop.invariant.0 in
    (omega arith, tested-more loop.invariant.1 (e ∙ sym c.target_ok.ensures ∙ c.if-not-target_ok.false))

pub returns : goal.returns
returns c = tested-all c.loop-j.invariant.1 (omega arith)
