-- `constant`: the closing constant stands at the end of the orbit.
use mathlib.Core.Path.{◌≡◌, sym, ap, ◌∙◌, subst}
use mathlib.Core.List.{List}
use Prim.Native.Nat.{ℕ, suc, ◌≤◌, ◌<◌}
use native.Mathlib.Omega.{arith}
use lib.ListN.{length, get_or}
use Rattle.numbers.proofs.Bools.{cond-lt, cond-ge}
use Rattle.survey.specs.declared.Frame.{Frame}
use Rattle.survey.specs.declared.Note.{Note}
use Rattle.survey.specs.Notes.{leaders, positions, shifts}
use Rattle.survey.specs.Below.{Surveyed}
use Rattle.survey.proofs.Marking.{pos-below, lead-below}
use Rattle.survey.proofs.Notes.{blank, there, noted_at, noted}
use Rattle.orbits.specs.Sides.{constant_in}
use Rattle.orbits.proofs.constant.Goals as goal

-- what is noted of q, and of its leader
module _ {f : Frame} {W : List ℕ} {rows : List (List ℕ)} {notes : List Note} (Y : Surveyed f W rows notes) (q : ℕ) (h : q < f.reps) where
  row : q < length notes
  row = there (λ n. n.position) notes Y.orbited.places_are.long h

  position_noted : get_or (positions notes) q 0 ≡ (get_or notes q blank).position
  position_noted = noted_at (λ n. n.position) notes q row

  leader_noted : get_or (leaders notes) q 0 ≡ (get_or notes q blank).leader
  leader_noted = noted_at (λ n. n.leader) notes q row

  position-small : (get_or notes q blank).position < f.p
  position-small = omega (arith, noted (λ n. n.position) notes Y.orbited.places_are q h, pos-below f W Y.sound.stands q h)

  led : (get_or notes q blank).leader < f.reps
  led = omega (arith, noted (λ n. n.leader) notes Y.orbited.leaders_are q h, lead-below f W Y.sound.stands q h, h)

  shift_noted : get_or (shifts notes) (get_or (leaders notes) q 0) 0 ≡ (get_or notes (get_or notes q blank).leader blank).shift
  shift_noted = ap (λ l. get_or (shifts notes) l 0) leader_noted ∙ noted_at (λ n. n.shift) notes _ (there (λ n. n.shift) notes Y.shifts_are.long led)

  shift-small : (get_or notes (get_or notes q blank).leader blank).shift < f.m
  shift-small = subst (λ x. x < f.m) (noted_at (λ n. n.shift) notes _ (there (λ n. n.shift) notes Y.shifts_are.long led)) (Y.shifts_are.below _ led)

pub overflow_add-n : goal.overflow_add-n
overflow_add-n c = let Y = c.requires.0.2 in omega (arith, position-small Y _ c.requires.1, Y.sound.stands.prime.1)

pub returns-then-n-f : goal.returns-then-n-f
unfolding constant_in
returns-then-n-f c = let Y = c.requires.0.2 in
    let h : suc (get_or (positions c.args.notes.now) c.args.q 0) < c.args.f.p = omega (arith, position_noted Y _ c.requires.1, c.if-n-f.true) in
    (sym (cond-lt _ _ 0 _ h), Y.sound.stands.modulus.0)

pub bounds-notes-n : goal.bounds-notes-n
bounds-notes-n c = let Y = c.requires.0.2 in there (λ n. n.shift) _ Y.shifts_are.long (led Y _ c.requires.1)

pub returns : goal.returns
unfolding constant_in
returns c = let Y = c.requires.0.2 in
    let h : c.args.f.p ≤ suc (get_or (positions c.args.notes.now) c.args.q 0) = omega (arith, position_noted Y _ c.requires.1, c.if-n-f.false) in
    (sym (shift_noted Y _ c.requires.1) ∙ sym (cond-ge _ _ 0 _ h), shift-small Y _ c.requires.1)
