-- `leading`: 0 unless r is the least of its orbit.
use mathlib.Core.Path.{sym, ◌∙◌}
use Rattle.survey.proofs.Notes.{noted-led, noted_other}
use Rattle.survey.proofs.Counting.{leading-least, leading-other}
use Rattle.survey.proofs.leading.Goals as goal

pub returns-then-notes-r : goal.returns-then-notes-r
returns-then-notes-r c = let other = noted_other c.requires.1 c.requires.2 c.if-notes-r.true in
    (sym (leading-other _ _ _ _ other), c.requires.0.modulus.0)

pub returns : goal.returns
returns c = let least = noted-led c.requires.1 c.requires.2 c.if-notes-r.false in
    (c.closing.ensures.0 ∙ sym (leading-least _ _ _ _ least), c.closing.ensures.1)
