-- `count_numbers`: c is the sum of what the representations before r give.
use mathlib.Core.Path.{refl, sym, ap₂, ◌∙◌}
use Prim.Native.Nat.{◌+◌}
use native.Mathlib.Omega.{arith}
use lib.ListN.{length-map}
use borrow.Author.Rules.{rules}
use Rattle.std.proofs.Math.Seq.{map-set_same}
use Rattle.survey.specs.declared.Note.{Note}
use Rattle.survey.specs.Notes.{without_number}
use Rattle.survey.proofs.Notes.{blank, kept, orbit_of, orbits_kept, filled_none, filled_put}
use Rattle.survey.proofs.Counting.{number-zero, number-next, number_fits}
use Rattle.survey.proofs.count_numbers.Goals as goal

pub loop-r-init : goal.loop-r-init
loop-r-init c = (refl, number-zero _ _, filled_none _ _)

pub made-c-requires : goal.made-c-requires
made-c-requires c = let l = c.loop-r in
    let B = map-set_same without_number l.notes l.r _ blank refl ∙ l.invariant.0 in
    (c.requires.0, orbits_kept _ _ (kept orbit_of without_number _ _ B) c.requires.1, search rules)

pub overflow_add-c : goal.overflow_add-c
overflow_add-c c = let l = c.loop-r in
    let fits = number_fits _ _ c.requires.0 (l.r + 1) (search rules) in
    omega (arith, l.invariant.1, c.made-c.ensures, number-next c.args.f c.args.low.now l.r, fits)

pub loop-r-preserved : goal.loop-r-preserved
loop-r-preserved c = let l = c.loop-r in (
  map-set_same without_number l.notes l.r _ blank refl ∙ l.invariant.0,
  ap₂ (λ x y. x + y) l.invariant.1 c.made-c.ensures ∙ sym (number-next _ _ _),
  filled_put (λ n. n.number) l.notes _ l.r _
      (omega (arith, c.requires.1.lines.long, length-map c.args.notes.now (λ (n : Note). n.first))) l.invariant.1 l.invariant.2,
)
