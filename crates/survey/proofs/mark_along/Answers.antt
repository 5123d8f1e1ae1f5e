-- `mark_along`: q is member k of the orbit, and the members before it are marked.
use mathlib.Core.Path.{refl, sym, ap, ◌∙◌, subst}
use Prim.Native.Nat.{suc}
use native.Mathlib.Omega.{arith}
use native.Mathlib.Nat.{le_refl}
use Rattle.numbers.proofs.Lists.{iter-zero}
use Rattle.level.proofs.Columns.{iter-next}
use Rattle.survey.specs.Below.{target_of, Lines}
use Rattle.survey.proofs.Notes.{there, marked-firsts, marked-long}
use Rattle.survey.proofs.Level.{located-stored, located-degree, located-target}
use Rattle.survey.proofs.Marking.{marking_put, orbit-member}
use Rattle.survey.proofs.mark_along.Goals as goal

pub loop-k-init : goal.loop-k-init
loop-k-init c = (sym (iter-zero _ _), record { marks = c.requires.marked_to; lines = refl; len = refl }, located-degree c.listed-d.ensures)

pub bounds-notes-q : goal.bounds-notes-q
bounds-notes-q c = let l = c.loop-k in let S = c.requires.level_stands in
    there (λ n. n.leader) l.notes l.invariant.1.marks.long.0 (orbit-member _ _ S.0 _ _ _ S.2 l.invariant.0)

pub member-e-requires : goal.member-e-requires
member-e-requires c = let l = c.loop-k in let S = c.requires.level_stands in
    let e = marked-firsts l.notes l.q c.args.r l.k ∙ l.invariant.1.lines in
    (S.0, subst (Lines c.args.f c.args.low.now) (sym e) S.1, orbit-member _ _ S.0 _ _ _ S.2 l.invariant.0, l.invariant.2)

pub target-q-requires : goal.target-q-requires
target-q-requires c = (c.args.f.m, located-stored c.member-e.ensures (suc c.args.f.top) c.requires.level_stands.0.gens.0)

pub loop-k-preserved : goal.loop-k-preserved
loop-k-preserved c = let l = c.loop-k in let S = c.requires.level_stands in
    let τ = target_of c.args.f c.args.low.now c.args.f.top in
    let t = located-target c.member-e.ensures _ _ (le_refl _) S.0.gens.0 c.target-q.ensures in (
      t.0 ∙ ap τ l.invariant.0 ∙ sym (iter-next τ _ _),
      record {
        marks = marking_put _ _ S.0 _ S.2 S.3 c.requires.moves _ _ l.notes (omega arith) l.invariant.0 l.invariant.1.marks;
        lines = marked-firsts l.notes l.q c.args.r l.k ∙ l.invariant.1.lines;
        len = marked-long l.notes l.q c.args.r l.k ∙ l.invariant.1.len;
      },
      l.invariant.2 ∙ sym (located-degree c.member-e.ensures) ∙ t.2,
    )
