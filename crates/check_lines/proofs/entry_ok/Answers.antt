-- `entry_ok` meets its contract: the row, then the exponent.
use mathlib.Core.Path.{◌∙◌, ap}
use native.Mathlib.Omega.{arith}
use Rattle.check_lines.specs.Lines.{entry_ok}
use Rattle.check_lines.proofs.Lines.{entry-last}
use Rattle.check_lines.proofs.entry_ok.Goals as goal

pub returns : goal.returns
returns c = let entry_at = c.entry_at-e in
    entry-last c.args.m c.args.d entry_at.result (omega (arith, c.if-d-e.false))
    ∙ ap (entry_ok c.args.m c.args.d) entry_at.ensures
