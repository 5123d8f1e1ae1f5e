-- `behind`: the next position within the bytes, or the end.
use mathlib.Core.Path.{sym}
use native.Mathlib.Omega.{arith}
use Rattle.case_input.proofs.Cases.{after_next, after-end}
use Rattle.case_input.proofs.behind.Goals as goal

pub returns-then-at-s : goal.returns-then-at-s
returns-then-at-s c = record { value = sym (after_next _ _ (omega arith)); lower_bound = (omega arith, omega arith) }

pub returns : goal.returns
returns c = record { value = sym (after-end _ _ (omega arith)); lower_bound = (omega arith, omega arith) }
