-- `case_at`: each part begins where the one before it ends.
use native.Mathlib.Omega.{arith}
use Rattle.case_input.proofs.Cases.{case-parts}
use Rattle.case_input.proofs.case_at.Goals as goal

pub returns : goal.returns
returns c = let is = case-parts _ _ c.find-line.ensures.value c.behind-text.ensures.value c.find-end.ensures.value c.behind-next.ensures.value in
    record { case_at = is; at_lt_text = (omega arith, omega arith, omega arith, omega arith) }
