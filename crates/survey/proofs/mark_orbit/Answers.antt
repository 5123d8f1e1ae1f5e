-- `mark_orbit`: where r is led to itself, it is its whole orbit.
use mathlib.Core.Path.{refl, sym, ◌∙◌}
use lib.ListN.{length-set}
use Rattle.std.proofs.Math.Seq.{map-set_same}
use Rattle.survey.specs.declared.Note.{Note}
use Rattle.survey.proofs.Notes.{blank, there}
use Rattle.survey.proofs.Marking.{marking_put_alone}
use Rattle.survey.proofs.mark_orbit.Goals as goal

pub bounds-notes-r : goal.bounds-notes-r
bounds-notes-r c = there (λ n. n.leader) c.args.notes.now c.requires.marked_to.long.0 c.requires.level_stands.2

pub returns-then-top_target-r : goal.returns-then-top_target-r
returns-then-top_target-r c = let S = c.requires.level_stands in let n = c.args.notes.now in
    let e = sym c.top_target.ensures ∙ c.if-top_target-r.true in
    record {
      marks = marking_put_alone _ _ S.0 _ S.2 S.3 e n c.requires.marked_to;
      lines = map-set_same (λ (x : Note). x.first) n c.args.r _ blank refl;
      len = length-set n c.args.r _;
    }
