-- `block_to`, case by case.
use mathlib.Core.Path.{◌≡◌, sym, ap, ◌∙◌, subst}
use Prim.Native.Nat.{suc, ◌<◌}
use native.Mathlib.Omega.{arith}
use native.Mathlib.Numerals.{add-one}
use Rattle.definitions.specs.Table.{REF, word_at}
use Rattle.survey.specs.Below.{target_of, position_in}
use Rattle.survey.proofs.Level.{matrix-room}
use Rattle.survey.proofs.Marking.{orbit-inside, pos-below}
use Rattle.survey.proofs.Notes.{there, noted}
use Rattle.orbits.specs.Blocks.{member_of}
use Rattle.induce.proofs.Cases.{to-next, to_last, to-above}
use Rattle.induce.proofs.block_to.Goals as goal

pub returns-then-b-f : goal.returns-then-b-f
returns-then-b-f c = let h : suc c.args.b < c.args.f.p = omega (arith, c.if-b-f.true) in
    (add-one _ ∙ to-next _ _ _ _ _ c.if-g-f.true h, omega (arith, h))

pub returns-else-b-f : goal.returns-else-b-f
returns-else-b-f c = let S = c.requires.level_stands.0 in
    (to_last _ _ _ _ _ (omega (arith, c.if-g-f.true)) (omega (arith, c.if-b-f.false)), omega (arith, S.prime))

pub word_at-q-requires : goal.word_at-q-requires
word_at-q-requires c = let W = c.args.low.now in let p = c.requires.level_stands in
    let room = matrix-room _ _ p.0 _ (member_of c.args.f W c.args.r c.args.b) p.4 (orbit-inside _ _ p.0 _ _ p.2) in
    (omega (arith, c.requires.src_value, room), omega arith)

pub bounds-notes-q : goal.bounds-notes-q
bounds-notes-q c = let f = c.args.f in let W = c.args.low.now in
    let p = c.requires.level_stands in
    let q = member_of f W c.args.r c.args.b in
    let e : c.word_at-q.result ≡ target_of f W c.args.g q = c.word_at-q.ensures ∙ ap (λ s. word_at W s REF) c.requires.src_value in
    let t = (p.0.target q (orbit-inside _ _ p.0 _ _ p.2) _ p.3 p.4).0 in
    there (λ n. n.position) _ p.1.places_are.long (subst (λ x. x < f.reps) (sym e) t)

pub returns : goal.returns
returns c = let f = c.args.f in
    let W = c.args.low.now in let p = c.requires.level_stands in let g = c.args.g in
    let q = member_of f W c.args.r c.args.b in
    let above : f.top < g = omega (arith, c.if-g-f.false, p.3) in
    let e : c.word_at-q.result ≡ target_of f W g q = c.word_at-q.ensures ∙ ap (λ s. word_at W s REF) c.requires.src_value in
    let t = subst (λ x. x < f.reps) (sym e) (p.0.target q (orbit-inside _ _ p.0 _ _ p.2) _ p.3 p.4).0 in
    let k = noted (λ n. n.position) c.args.notes.now p.1.places_are _ t in
    (k ∙ ap (position_in f W) e ∙ to-above _ _ _ _ _ above, subst (λ x. x < f.p) (sym k) (pos-below _ _ p.0 _ t))
