-- `mark_orbits`: the orbits of the representations before r are marked.
use mathlib.Core.Path.{◌≡◌, sym, ◌∙◌, subst}
use native.Mathlib.Omega.{arith}
use borrow.Author.Rules.{rules}
use Rattle.survey.specs.Notes.{leaders, positions, without_leader}
use Rattle.survey.specs.Below.{Lines, MarkedTo}
use Rattle.survey.proofs.Notes.{kept}
use Rattle.survey.proofs.Marking.{marking-all}
use Rattle.survey.proofs.mark_orbits.Goals as goal

pub mark_from-requires-clause-level_stands : goal.mark_from-requires-clause-level_stands
mark_from-requires-clause-level_stands c = let l = c.loop-r in
    let e = l.invariant.lines ∙ kept (λ n. n.first) without_leader _ _ c.clear.ensures.beside in
    (c.requires.0, subst (Lines c.args.f c.args.low.now) (sym e) c.requires.1, search rules)

pub returns : goal.returns
returns c = let l = c.loop-r in
    let M = l.invariant in let f = c.args.f in let W = c.args.low.now in
    let e : l.r ≡ f.reps = omega arith in
    let A = marking-all _ _ c.requires.0 _ _ (subst (λ k. MarkedTo f W (leaders l.notes) (positions l.notes) k 0) e M.marks) in
    let first = M.lines ∙ kept (λ n. n.first) without_leader _ _ c.clear.ensures.beside in
    (record { lines = subst (Lines f W) (sym first) c.requires.1; leaders_are = A.0; places_are = A.1 }, omega arith)
