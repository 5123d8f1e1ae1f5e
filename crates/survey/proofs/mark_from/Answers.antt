-- `mark_from`: a representation that is its own leader begins its orbit.
use mathlib.Core.Path.{refl, ◌∙◌, sym}
use Rattle.survey.proofs.Notes.{there, noted_at}
use Rattle.survey.proofs.Marking.{marking-done, marking-skip, marking-own}
use Rattle.survey.proofs.mark_from.Goals as goal

pub mark_orbit-requires-clause-level_stands : goal.mark_orbit-requires-clause-level_stands
mark_orbit-requires-clause-level_stands c = let S = c.requires.level_stands in let M = c.requires.marked_to in
    let n = c.args.notes.now in
    let u = noted_at (λ n. n.leader) n c.args.r (there (λ n. n.leader) n M.long.0 S.2) ∙ c.if-notes-r.true in
    (S.0, S.1, S.2, marking-own _ _ S.0 _ _ _ S.2 u M)

pub returns-then-notes-r : goal.returns-then-notes-r
returns-then-notes-r c = let S = c.requires.level_stands in let M = c.requires.marked_to in
    let n = c.args.notes.now in
    let u = noted_at (λ n. n.leader) n c.args.r (there (λ n. n.leader) n M.long.0 S.2) ∙ c.if-notes-r.true in
    let e = c.mark_orbit.ensures in
    record { marks = marking-done _ _ S.0 _ S.2 (marking-own _ _ S.0 _ _ _ S.2 u M) _ _ e.marks; lines = e.lines; len = e.len }

pub returns-else-notes-r : goal.returns-else-notes-r
returns-else-notes-r c = let S = c.requires.level_stands in let M = c.requires.marked_to in
    let n = c.args.notes.now in
    let u = noted_at (λ n. n.leader) n c.args.r (there (λ n. n.leader) n M.long.0 S.2) in
    record { marks = marking-skip _ _ S.0 _ _ _ S.2 (λ e. c.if-notes-r.false (sym u ∙ e)) M; lines = refl; len = refl }
