-- `proper` asks for valid matrices where there are several blocks.
use mathlib.Core.Path.{sym, ◌∙◌}
use Rattle.seek.proofs.Halves.{lines-there}
use Rattle.compare.proofs.proper.Goals as goal

pub returns-then-d-w : goal.returns-then-d-w
returns-then-d-w c = λ e. record { valid = λ n. absurd (n c.if-d-w.true) }

pub matrices_ok-requires : goal.matrices_ok-requires
matrices_ok-requires c = lines-there _ _ c.requires.room

pub returns : goal.returns
returns c = λ e. record { valid = λ n. sym c.matrices_ok.ensures ∙ e }
