-- `find`: what is found from the position on is what is found from the start on.
use mathlib.Core.Path.{◌≡◌, sym, ◌∙◌}
use lib.ListN.{length}
use native.Mathlib.Omega.{arith}
use Rattle.case_input.proofs.Cases.{found_here, found-on, found-end}
use Rattle.case_input.proofs.find.Goals as goal

pub returns-then-s-at : goal.returns-then-s-at
returns-then-s-at c = let l = c.loop-at in
    record { value = sym (found_here _ l.at _ (omega arith) (omega arith)) ∙ l.invariant.2; lower_bound = (l.invariant.0, l.invariant.1) }

pub loop-at-preserved : goal.loop-at-preserved
loop-at-preserved c = let l = c.loop-at in
    (omega arith, omega arith, sym (found-on _ l.at _ (omega arith) (λ e. omega arith)) ∙ l.invariant.2)

pub returns : goal.returns
returns c = let l = c.loop-at in
    let e : l.at ≡ length c.args.s.now = omega (arith, l.invariant.1) in
    record { value = sym e ∙ sym (found-end _ l.at _ e) ∙ l.invariant.2; lower_bound = (omega (arith, l.invariant), omega arith) }
