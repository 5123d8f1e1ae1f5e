-- `made`, case by case.
use mathlib.Core.Path.{sym, ◌∙◌}
use Rattle.survey.proofs.Notes.{noted-led, noted_other}
use Rattle.survey.proofs.Counting.{made-fixed, made-leader, made_none}
use Rattle.survey.proofs.made.Goals as goal

pub returns-then-notes-r : goal.returns-then-notes-r
returns-then-notes-r c = made_none _ _ c.requires.0 _ c.requires.2 (noted_other c.requires.1 c.requires.2 c.if-notes-r.true)

pub returns-then-top_target-r : goal.returns-then-top_target-r
returns-then-top_target-r c = made-fixed _ _ _ (sym c.top_target.ensures ∙ c.if-top_target-r.true)

pub returns : goal.returns
returns c = let least = noted-led c.requires.1 c.requires.2 c.if-notes-r.false in
    made-leader _ _ _ (λ e. c.if-top_target-r.false (c.top_target.ensures ∙ e)) least
