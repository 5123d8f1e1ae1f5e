-- `next_scalar` compares the two sides at column 0 of a block.
use mathlib.Core.Path.{◌≡◌, sym, ap, ◌∙◌, subst}
use mathlib.Core.List.{List}
use Prim.Native.Nat.{ℕ, ◌<◌}
use lib.ListN.{get_or}
use Rattle.definitions.specs.Monomial.{less}
use Rattle.survey.specs.declared.Frame.{Frame}
use Rattle.survey.specs.declared.Note.{Note}
use Rattle.survey.specs.Notes.{shifts}
use Rattle.survey.proofs.Notes.{blank, there, noted_at}
use Rattle.orbits.specs.declared.Block.{Block}
use Rattle.orbits.specs.Blocks.{Inducing}
use Rattle.orbits.proofs.Sides.{next_is}
use Rattle.orbits.proofs.next_scalar.Goals as goal

-- the constant of the orbit, as it is noted
shift_noted : {f : Frame} {W : List ℕ} {rows : List (List ℕ)} {notes : List Note} {blocks : List Block} {r : ℕ} → Inducing f W rows notes blocks r
    → get_or (shifts notes) r 0 ≡ (get_or notes r blank).shift
shift_noted {notes = notes} {r = r} I = noted_at (λ n. n.shift) notes r (there (λ n. n.shift) notes I.surveyed.shifts_are.long I.leads.listed)

pub conjugate-a-requires : goal.conjugate-a-requires
conjugate-a-requires c = let I = c.requires.0 in let f = c.args.f in
    let w = c.word-w.ensures in (
      record { rows = c.args.rows.now; known = I },
      c.requires.3,
      subst (λ x. x < f.m) (shift_noted c.requires.0) (I.surveyed.shifts_are.below _ I.leads.listed),
      subst (λ x. get_or x f.top 0 < f.p) (sym w) (I.surveyed.sound.words.below _ c.requires.1 c.requires.2),
    )

pub returns : goal.returns
returns c = let a = c.args in
    let l = c.left-l in let y = c.right-y in
    let t = c.conjugate-a.ensures in
    let next = next_is _ _ _ _ _ c.requires.0 c.requires.1 c.requires.2 _ _ _ _ _ _ _ in
    let e = c.sub_mod.ensures.0 ∙ ap (λ x. less a.f.m x l.result) c.add_mod-e.ensures.0 in
    next (sym (shift_noted c.requires.0)) c.word-w.ensures t l.ensures.0 y.ensures.0 e c.sub_mod.ensures.1
