-- `induced_target` follows the least of an orbit.
use mathlib.Core.Path.{sym, ap, ◌∙◌}
use Prim.Native.Nat.{suc}
use native.Mathlib.Omega.{arith}
use lib.ListN.{get_or, get_or-map}
use Rattle.survey.specs.declared.Note.{Note}
use Rattle.survey.proofs.Notes.{blank, there, noted}
use Rattle.survey.specs.Notes.{numbers}
use Rattle.survey.specs.Below.{leader_in}
use Rattle.survey.proofs.Level.{located-stored, located-target}
use Rattle.survey.proofs.Marking.{lead-below}
use Rattle.induce.proofs.induced_target.Goals as goal

pub target-q-requires : goal.target-q-requires
target-q-requires c = (c.args.f.m, located-stored c.listed-d.ensures (suc c.args.g) c.requires.2)

pub bounds-notes-l : goal.bounds-notes-l
bounds-notes-l c = let Y = c.requires.0.1 in
    let D = c.listed-d.ensures in
    let t = located-target D _ _ (omega (arith, c.if-g-f.false)) c.requires.2 c.target-q.ensures in
    let lead = lead-below _ _ Y.sound.stands _ t.1 in
    let is = noted (λ n. n.leader) c.args.notes.now Y.orbited.leaders_are _ t.1 in
    there (λ n. n.number) _ Y.numbers_are.long (omega (arith, is, lead, t.1))

pub returns : goal.returns
returns c = let W = c.args.low.now in
    let D = c.listed-d.ensures in
    let t = located-target D _ _ (omega (arith, c.if-g-f.false)) c.requires.2 c.target-q.ensures in
    let lead = noted (λ n. n.leader) c.args.notes.now c.requires.0.1.orbited.leaders_are _ t.1 ∙ ap (leader_in c.args.f W) t.0 in
    λ above. sym (get_or-map (λ (n : Note). n.number) c.args.notes.now _ blank) ∙ ap (λ l. get_or (numbers c.args.notes.now) l 0) lead
